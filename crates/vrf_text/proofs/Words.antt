-- The length word of a text: read as a signed number, it is the word of the definition, and decides how the rest is read.
use mathlib.Core.List.{List, []}
use mathlib.Core.Path.{◌≡◌, refl, sym, ap, ◌∙◌, subst}
use Prim.Native.Nat.{ℕ, suc, ◌+◌, ◌-◌, ◌^◌, ◌≤◌, ◌<◌}
use native.Mathlib.Omega.{arith}
use lib.Dec.{ltb}
use lib.IntN.{ℤ, pos, negsuc}
use lib.Signed.{mag}
use borrow.Author.Tests.{le-ltb, ltb-true, ltb-false, eq-eqb, ne_eqb}
use mir.Facts.{to_z-of_z}
use mir.Syntax.{w32}
use mir.Val.{to_z, of_z}
use Rattle.std.specs.Prelude.{Ok}
use Rattle.vrf_bitio.specs.Bits.{bits_of}
use Rattle.vrf_bitio.specs.Reading.{ok, refused, Reader, return, bind_read, ◌>>=◌}
use Rattle.vrf_bitio.specs.Number.{word32, int32, signed}
use Rattle.vrf_bitio.specs.Answers.{rest_of, read_here, Gave, Refuses}
use Rattle.vrf_bitio.specs.Inner.Reader.{moved}
use Rattle.vrf_bitio.proofs.Laws.Cases.{by_cond, by_order, clash}
use Rattle.vrf_bitio.proofs.Laws.Bits.{bits-lt}
use Rattle.vrf_bitio.proofs.Laws.Reading.{bind_ok, bind-refused}
use Rattle.vrf_bitio.proofs.Laws.Window.{word-found, word-lacks}
use Rattle.vrf_bitio.proofs.Laws.Pasted.{pasted-nil}
use Rattle.vrf_bitio.specs.declared.BitReader.{BitReader}
use Rattle.vrf_bitio.specs.declared.Refusal.{Refusal}
use Rattle.vrf_text.specs.Text.{text8, text16, text_of, fstring, into_target, fstring_into}
use Rattle.vrf_text.specs.Answers.{TextAnswer}
use Rattle.vrf_text.specs.Inner.Steps.{bit_at, LengthOf, into, PutAnswer}
use Rattle.vrf_text.proofs.Laws.Text.{text_of-8, fstring-at}
use Rattle.vrf_text.specs.declared.Length.{Length}

-- the word of a signed number that was read
pub record Worded (r : BitReader) (v : ℤ) (at : BitReader) : Type 0 where
  pub w : ℕ
  pub small : w < 4294967296
  pub word : Gave r (read_here r word32) w at
  pub is : v ≡ signed w

module _ (r : BitReader) where
  lacking : r.count - r.pos < 32 → read_here r int32 ≡ refused 10 r.pos 32
  unfolding int32
  lacking h = bind-refused word32 _ r.pos (rest_of r) (word-lacks r.«data».now r.first r.count r.pos h)

  found : 32 ≤ r.count - r.pos → read_here r int32 ≡ ok (signed (bits_of r.«data».now (bit_at r) 32)) (r.pos + 32) (rest_of (moved r 32))
  unfolding int32 return
  found h = bind_ok word32 _ r.pos (rest_of r) (word-found r.«data».now r.first r.count r.pos h)

  pub worded : (v : ℤ) (at : BitReader) → Gave r (read_here r int32) v at → Worded r v at
  worded v at g = by_order (r.count - r.pos) 31
      (λ h. let e = sym (lacking (omega arith)) ∙ g.read in clash (cc))
      λ h. let e = sym (found h) ∙ g.read in
      record {
        w = bits_of r.«data».now (bit_at r) 32;
        small = bits-lt r.«data».now (bit_at r) 32;
        word = record { read = word-found r.«data».now r.first r.count r.pos h ∙ (cc); same = g.same; first = g.first; count = g.count };
        is = cc;
      }

  no_word : (x : Refusal) → Refuses (read_here r int32) x → Refuses (read_here r fstring) x
  no_word x e = by_order (r.count - r.pos) 31
      (λ h. let e' = sym (lacking (omega arith)) ∙ e in
      fstring-at r.pos (rest_of r) ∙ bind-refused word32 _ r.pos (rest_of r) (word-lacks r.«data».now r.first r.count r.pos (omega arith)) ∙ (cc))
      λ h. let e' = sym (found h) ∙ e in clash (cc)

  pub word-refused : (m : ℕ) (x : Refusal) → Refuses (read_here r int32) x → Refuses (read_here r (fstring_into m)) x
  unfolding fstring_into
  word-refused m x e = bind-refused fstring (into_target m) r.pos (rest_of r) (no_word x e)

-- the word of a signed number, by its sign
signed-pos : (w n : ℕ) → signed w ≡ pos n → (w ≡ n) × (w < 2147483648)
unfolding signed
signed-pos w n =
    by_cond (λ (z : ℤ). z ≡ pos n → (w ≡ n) × (w < 2147483648)) (ltb w (2 ^ 31))
    (λ t e. (cc, ltb-true w (2 ^ 31) t)) λ t e. clash (cc)

signed-neg : (w n : ℕ) → signed w ≡ negsuc n → (2147483648 ≤ w) × (n ≡ 4294967296 - suc w)
unfolding signed
signed-neg w n =
    by_cond (λ (z : ℤ). z ≡ negsuc n → (2147483648 ≤ w) × (n ≡ 4294967296 - suc w)) (ltb w (2 ^ 31))
    (λ t e. clash (cc)) λ t e. (ltb-false w (2 ^ 31) t, cc)

signed-fits : (w : ℕ) → w < 4294967296 → mag (signed w) < 2147483648
unfolding signed
signed-fits w h = by_cond (λ (z : ℤ). mag z < 2147483648) (ltb w (2 ^ 31)) (λ t. ltb-true w (2 ^ 31) t) λ t. omega (arith, ltb-false w (2 ^ 31) t)

module _ (r : BitReader) {v : ℤ} {at : BitReader} (d : Worded r v at) where
  -- the answer of `length_of` for the number, which is passed to it as its bits
  pub says : (l : Length) → LengthOf (to_z w32 (of_z w32 v)) l → LengthOf v l
  says l = subst (λ (z : ℤ). LengthOf z l) (to_z-of_z {w = w32} (record { sfits = rw d.is (signed-fits d.w d.small) }))

  then : read_here r fstring ≡ read_here at (text_of r.pos d.w)
  then = fstring-at r.pos (rest_of r) ∙ bind_ok word32 (text_of r.pos) r.pos (rest_of r) d.word.read

  then-none : v ≡ pos 0 → read_here r fstring ≡ read_here at (return [])
  unfolding text_of
  then-none e =
      let z : d.w ≡ 0 = (signed-pos d.w 0 (sym d.is ∙ e)).0 in
      then ∙ rw (eq-eqb d.w 0 z)

  pub then-bytes : (n : ℕ) → v ≡ pos n → 0 < n → read_here r fstring ≡ read_here at (text8 r.pos n n)
  then-bytes n e h =
      let f = signed-pos d.w n (sym d.is ∙ e) in
      then ∙ rw (f.0, text_of-8 r.pos n h (omega arith))

  module _ (n : ℕ) (e : v ≡ negsuc (n - 1)) (h : 0 < n) where
    units-of : (2147483648 ≤ d.w) × (n - 1 ≡ 4294967296 - suc d.w)
    units-of = signed-neg d.w (n - 1) (sym d.is ∙ e)

    pub units-few : n ≤ 2147483648
    units-few = omega (arith, units-of, d.small)

    pub then-units : read_here r fstring ≡ read_here at (text16 r.pos (4294967296 - n) n)
    unfolding text_of
    then-units =
        let z : d.w ≡ 0 → ⊥ = λ q. omega (arith, units-of) in
        let m : d.w ≡ 4294967296 - n = omega (arith, units-of, d.small) in
        let k : 4294967296 - (4294967296 - n) ≡ n = omega (arith, units-few) in
        then ∙ rw (ne_eqb d.w 0 z, le-ltb d.w (2 ^ 31) units-of.0, m, k)

  -- an answer for the rest after the length word is an answer for the whole text
  module _ (m : ℕ) (g : Reader (List ℕ)) (e : read_here r fstring ≡ read_here at g) where
    whole : read_here r (fstring_into m) ≡ read_here at (into m g)
    unfolding fstring_into ◌>>=◌
    whole = ap (bind_read (into_target m)) e

    pub given : (before after : List ℕ) (n : ℕ) (next : BitReader) → PutAnswer at next (read_here at (into m g)) before after (Ok n)
        → TextAnswer r next (read_here r (fstring_into m)) before after (Ok n)
    given before after n next a = (
      a.0,
      (
        record { read = whole ∙ a.1.0.read; same = a.1.0.same ∙ d.word.same; first = a.1.0.first ∙ d.word.first; count = a.1.0.count ∙ d.word.count },
        a.1.1,
      ),
    )

    pub not-given : (x : Refusal) → Refuses (read_here at (into m g)) x → Refuses (read_here r (fstring_into m)) x
    not-given x q = whole ∙ q

  -- an empty text
  pub given-none : (m : ℕ) → v ≡ pos 0 → (out : List ℕ) → TextAnswer r at (read_here r (fstring_into m)) out out (Ok 0)
  unfolding return ◌>>=◌ bind_read into_target
  given-none m e out = given m (return []) (then-none e) out out 0 at ([], (record { read = rw (le-ltb m 0 (omega arith)); same = refl; first = refl; count = refl }, (refl, sym (pasted-nil out 0))))
