-- The loops over units of UTF-16: at place i, the UTF-8 so far followed by the UTF-8 of the units from i on is the whole text.
use mathlib.Core.List.{List, [], ◌++◌, append_assoc, append-nil}
use mathlib.Core.Option.{Option as Maybe, none, some}
use mathlib.Core.Path.{◌≡◌, refl, sym, ap, ◌∙◌}
use Prim.Native.Nat.{ℕ, ◌+◌, ◌≤◌}
use native.Mathlib.Omega.{arith}
use lib.ListN.{length, drop, length-append, drop_of_length-le}
use lib.Seq.{drop-drop}
use Rattle.std.specs.Prelude.{Option, Some, None, IsSome}
use Rattle.vrf_bitio.specs.Pasted.{pasted}
use Rattle.vrf_bitio.proofs.Laws.Cases.{clash}
use Rattle.vrf_bitio.proofs.Laws.Pasted.{pasted-nil, pasted_length, pasted-append}
use Rattle.vrf_text.specs.Utf16.{before, utf16, utf16_from, utf8_of, utf8_chars, units_to_utf8}
use Rattle.vrf_text.specs.Inner.Steps.{FitsTarget, WroteText}
use Rattle.vrf_text.specs.Inner.Spans.{CharTaken}
use Rattle.vrf_text.specs.declared.Char.{Char}

-- the bytes x put before the UTF-8 of the rest, if the rest has no error
unfoldable pub joined : List ℕ → Maybe (List ℕ) → Maybe (List ℕ)
joined x none = none
joined x (some t) = some (x ++ t)

joined-twice : (x y : List ℕ) (o : Maybe (List ℕ)) → joined x (joined y o) ≡ joined (x ++ y) o
unfolding joined
joined-twice x y none = refl
joined-twice x y (some t) = ap some (sym (append_assoc x y t))

joined-nil : (o : Maybe (List ℕ)) → o ≡ joined [] o
unfolding joined
joined-nil none = refl
joined-nil (some t) = refl

-- units that begin with a character, and units that do not
with-char : (ws vs : List ℕ) (u : ℕ) → utf16 ws ≡ before u (utf16 vs) → units_to_utf8 ws ≡ joined (utf8_of u) (units_to_utf8 vs)
unfolding units_to_utf8 utf8_chars before joined
with-char ws vs u e = rw (e, units_to_utf8) (go (utf16 vs))
  where
    go : (o : Maybe (List ℕ)) → ◌≡◌ {A = Maybe (List ℕ)} (elim (before u o) [ none ↦ none | some cs ↦ some (utf8_chars cs) ])
        (joined (utf8_of u) (elim o [ none ↦ none | some cs ↦ some (utf8_chars cs) ]))
    go none = refl
    go (some cs) = refl

with_none : (ws : List ℕ) → utf16 ws ≡ none → units_to_utf8 ws ≡ none
unfolding units_to_utf8
with_none ws e = rw (e, units_to_utf8)

pub record Decoding (ws : List ℕ) (i len : ℕ) : Type 0 where
  pub done : List ℕ
  pub long : length done ≡ len
  pub same : units_to_utf8 ws ≡ joined done (units_to_utf8 (drop i ws))

pub start : (ws : List ℕ) → Decoding ws 0 0
start ws = record { done = []; long = refl; same = joined-nil (units_to_utf8 ws) }

module _ (ws : List ℕ) (i len : ℕ) (d : Decoding ws i len) where
  pub bad : utf16 (drop i ws) ≡ none → units_to_utf8 ws ≡ none
  unfolding joined
  bad e = d.same ∙ ap (joined d.done) (with_none (drop i ws) e)

  pub end : length ws ≤ i → units_to_utf8 ws ≡ some d.done
  unfolding joined units_to_utf8 utf16 utf16_from utf8_chars
  end h = d.same ∙ rw (drop_of_length-le ws h) (ap some (append-nil d.done))

  further : (u k : ℕ) → utf16 (drop i ws) ≡ before u (utf16 (drop k (drop i ws))) → units_to_utf8 ws ≡ joined (d.done ++ utf8_of u) (units_to_utf8 (drop (i + k) ws))
  further u k t =
      d.same ∙ ap (joined d.done) (with-char (drop i ws) (drop k (drop i ws)) u t) ∙ joined-twice d.done (utf8_of u) _ ∙ rw (drop-drop k i ws)

  pub on : (u k : ℕ) → utf16 (drop i ws) ≡ before u (utf16 (drop k (drop i ws))) → Decoding ws (i + k) (len + length (utf8_of u))
  on u k t = record {
    done = d.done ++ utf8_of u;
    long = length-append d.done (utf8_of u) ∙ ap (λ (n : ℕ). n + length (utf8_of u)) d.long;
    same = further u k t;
  }

-- ---- the loop of `put_utf8`

joined-fits : (x : List ℕ) (o : Maybe (List ℕ)) (t : List ℕ) → joined x o ≡ some t → length x ≤ length t
unfolding joined
joined-fits x none t e = clash (cc)
joined-fits x (some r) t e = let f : x ++ r ≡ t = cc in omega (arith, length-append x r, ap length f)

-- the lent memory begins with what is decoded so far
pub record DecodeLoop (ws was out : List ℕ) (i at : ℕ) : Type 0 where
  pub decoded : Decoding ws i at
  pub wrote : out ≡ pasted was 0 decoded.done
  pub long : length out ≡ length was

pub write-start : (ws was : List ℕ) → DecodeLoop ws was was 0 0
unfolding start
write-start ws was = record { decoded = start ws; wrote = sym (pasted-nil was 0); long = refl }

module _ (ws was out : List ℕ) (i at : ℕ) (v : DecodeLoop ws was out i at) where
  module _ (r : FitsTarget (units_to_utf8 ws) (length was)) where
    -- a character begins at each place of units that have a text
    pub begins : (o : Option Char) → CharTaken (drop i ws) o → IsSome o
    begins (Some c) t = refl
    begins None t =
        let n : units_to_utf8 ws ≡ none = bad ws i at v.decoded t in
        clash (cc r.is)

    module _ (u k : ℕ) (t : utf16 (drop i ws) ≡ before u (utf16 (drop k (drop i ws)))) where
      pub fits : at + length (utf8_of u) ≤ length out
      fits = omega (
        arith,
        joined-fits (v.decoded.done ++ utf8_of u) _ r.text (sym (further ws i at v.decoded u k t) ∙ r.is),
        length-append v.decoded.done (utf8_of u),
        v.decoded.long,
        v.long,
        r.fits,
      )

      pub write-on : {out' : List ℕ} → out' ≡ pasted out at (utf8_of u) → DecodeLoop ws was out' (i + k) (at + length (utf8_of u))
      unfolding on
      write-on {out'} e =
          let x : List ℕ = v.decoded.done in
          let space : at ≤ length was = omega (arith, fits, v.long) in
          record {
            decoded = on ws i at v.decoded u k t;
            wrote = e ∙ ap (λ (l : List ℕ). pasted l at (utf8_of u)) v.wrote ∙ pasted-append x (utf8_of u) was 0 at (omega (arith, v.decoded.long)) space;
            long = ap length e ∙ pasted_length (utf8_of u) out at fits ∙ v.long;
          }

  pub write-end : length ws ≤ i → WroteText (units_to_utf8 ws) was out
  write-end h = record { text = v.decoded.done; is = end ws i at v.decoded h; wrote = v.wrote }
