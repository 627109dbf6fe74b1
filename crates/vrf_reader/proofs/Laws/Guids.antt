-- A GUID run: one law for each path through `read_payload` and `guid_entry`. Used by their proofs.
use Rattle.std.specs.Prelude.{◌≡◌, ◌≢◌, true, cond, ℕ, Err, ◌-◌, ◌*◌, ◌/◌, ◌^◌, ◌<◌, ◌≤◌, leb}
use Rattle.std.proofs.Math.Path.{refl}
use Rattle.std.proofs.Common.{sym, ap, ◌∙◌, arith, lt-ltb, le-ltb, le-leb}
use mathlib.Core.List.{List, [], ◌∷◌}
use Rattle.std.proofs.Math.ListN.{length}
use Rattle.std.proofs.lemmas.Bool.{lt-leb}
use Rattle.vrf_bitio.specs.Window.{inner}
use Rattle.vrf_bitio.specs.Number.{bytes, word32}
use Rattle.vrf_bitio.specs.Answers.{rest_of, read_here, Gave, Refuses}
use Rattle.vrf_bitio.proofs.Laws.Window.{rest-length}
use Rattle.vrf_bitio.specs.declared.BitReader.{BitReader}
use Rattle.vrf_bitio.specs.declared.Reason.TheVariants.{NegativePayloadSize}
use Rattle.vrf_bitio.specs.declared.Refusal.{Refusal}
use Rattle.vrf_model.specs.Book.{Content, Increments}
use Rattle.vrf_model.specs.Parser.{parsed, failed, Parser, return, fail, bind_parsed, ◌>>=◌, parsed_read, read}
use Rattle.vrf_model.specs.Runs.{object_at, after_inner, inner_window, payload_of, guid_entry}
use Rattle.vrf_store.specs.Inner.WellFormed.{WellFormed}
use Rattle.vrf_store.specs.Inner.Stepped.{held}
use Rattle.vrf_reader.specs.Inner.Simulates.{parser_at, Simulates, Refines}
use Rattle.vrf_reader.specs.Inner.Within.{ReaderWithin}
use Rattle.vrf_reader.proofs.Laws.Simulates.{own-window, alike, stays, then, across, bind, bind-stop, read-on, stops}
use Rattle.vrf_reader.proofs.Laws.Within.{Inside, sub-short}

-- ---- a payload

-- no whole byte is left in the payload, or 25
module _ {A : Type 0} (pos : ℕ) (l : List ℕ) (a : A) (p : ℕ) (c : Content) (t : Increments) where
  following-none : (left : List ℕ) → length left ≡ 0 → after_inner pos l (parsed a p left c t) ≡ parsed a pos l c t
  unfolding after_inner
  following-none [] h = refl
  following-none (b ∷ left) h = absurd (omega arith)

  following-some : (left : List ℕ) → length left ≢ 0 → after_inner pos l (parsed a p left c t) ≡ failed 25 (length left) 0 c t
  unfolding after_inner
  following-some [] h = absurd (h refl)
  following-some (b ∷ left) h = refl

module _ {A : Type 0} (n : ℕ) (k : Parser A) {r : BitReader} where
  pub payload-short : {m : List ℕ} (q : Refusal) → ReaderWithin r → WellFormed m → Refuses (inner r.«data».now r.first r.count (8 * n) r.pos) q
      → Refines (payload_of n k) r r m m (Err q)
  unfolding payload_of ◌>>=◌ bind_parsed read parsed_read bytes fail
  payload-short q within good e =
      let short = sub-short n within q e in
      alike good (λ t. rw (lt-ltb (length (rest_of r)) n short.0) (cc short.1))

  module _ {i d : BitReader} (w : Inside r n i d) where
    in_window : (m : List ℕ) (t : Increments) → parser_at r m (payload_of n k) t ≡ after_inner d.pos (rest_of d) (parser_at i m k t)
    unfolding payload_of inner_window ◌>>=◌ bind_parsed read parsed_read bytes
    in_window m t = rw (le-ltb (length (rest_of r)) n w.enough, w.bytes, w.left, w.start, w.next)

    -- the payload, after the code has read its object as far as e
    from-object : {m m' : List ℕ} {k' : Parser A} {e : BitReader} (g : Simulates k i m k' e m') (t : Increments)
        → parser_at r m (payload_of n k) t ≡ after_inner d.pos (rest_of d) (parser_at e m' k' (g.adds t))
    from-object {m} g t = in_window m t ∙ ap (after_inner d.pos (rest_of d)) (g.simulates t)

    pub payload-refused : {m m' : List ℕ} (q : Refusal) → Refines k i i m m' (Err q) → Refines (payload_of n k) r r m m' (Err q)
    unfolding fail after_inner
    payload-refused q g = across g (from-object g) own-window

    module _ {m m' : List ℕ} (v : A) {e : BitReader} (g : Simulates k i m (return v) e m') {j : ℕ} (left : j ≡ (e.count - e.pos) / 8) where
      how-many : length (rest_of e) ≡ j
      how-many = rest-length e.«data».now e.first e.count e.pos ∙ sym left

      pub payload-whole : j ≡ 0 → Simulates (payload_of n k) r m (return v) d m'
      unfolding return
      payload-whole z =
          let none = how-many ∙ z in
          across g (λ t. from-object g t ∙ following-none _ _ v _ (held m') (g.adds t) (rest_of e) none) w.window

      pub payload-trailing : j ≢ 0 → Simulates (payload_of n k) r m (fail 25 j 0) r m'
      unfolding return fail
      payload-trailing h =
          let some : length (rest_of e) ≢ 0 = λ z. h (sym how-many ∙ z) in
          across g (λ t. from-object g t ∙ following-some _ _ v _ (held m') (g.adds t) (rest_of e) some ∙ rw how-many) own-window

-- ---- an entry

module _ {r d : BitReader} {m : List ℕ} (good : WellFormed m) {size : ℕ} (g : Gave r (read_here r word32) size d) where
  to-payload : Simulates guid_entry r m (cond (leb (2 ^ 31) size) (fail 24 size 0) (payload_of size (object_at 0 true)) >>= λ guid. return tt) d m
  unfolding guid_entry
  to-payload = read-on word32 _ good g

  pub entry-negative : 2 ^ 31 ≤ size → Simulates guid_entry r m (fail 24 size 0) r m
  entry-negative h =
      let q : Refusal = record { reason = NegativePayloadSize; a = size; b = 0 } in
      stops to-payload q (rw (le-leb (2 ^ 31) size h) (bind-stop _ q (stays good)))

  module _ (h : size < 2 ^ 31) {m' : List ℕ} where
    pub entry-refused : (q : Refusal) → Refines (payload_of size (object_at 0 true)) d d m m' (Err q) → Refines guid_entry r r m m' (Err q)
    entry-refused q p = stops to-payload q (rw (lt-leb (2 ^ 31) size h) (bind-stop _ q p))

    pub entry_read : (guid : ℕ) {e : BitReader} → Simulates (payload_of size (object_at 0 true)) d m (return guid) e m'
        → Simulates guid_entry r m (return tt) e m'
    entry_read guid p = then to-payload (rw (lt-leb (2 ^ 31) size h) (bind _ p))
