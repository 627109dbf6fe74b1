-- Lemmas for the proofs of the reader's methods: in each case of the code, the answer is what the definition yields.
use mathlib.Core.Path.{◌≡◌, refl, sym, ap, ◌∙◌}
use mathlib.Core.Bool.{Bool, true, false, cond}
use mathlib.Core.List.{List}
use Prim.Native.Nat.{ℕ, zero, suc, ◌+◌, ◌-◌, ◌*◌, ◌/◌, ◌%◌, ◌^◌, ◌<◌, ◌≤◌, min}
use native.Mathlib.Nat.{mod-lt}
use native.Mathlib.Omega.{arith}
use lib.Dec.{ltb, eqb}
use lib.ListN.{length, get_or}
use borrow.Author.Tests.{lt-ltb, le-ltb}
use Rattle.vrf_bitio.specs.Bits.{bits_of, bytes_of, packed_bits, bytes_for}
use Rattle.vrf_bitio.specs.Reading.{Read, ok, refused, bind_read}
use Rattle.vrf_bitio.specs.Window.{rest, bits, window, inner, copied}
use Rattle.std.specs.Prelude.{Result, Ok, Err}
use Rattle.vrf_bitio.specs.Answers.{rest_of, bits_here, Gave, Answers}
use Rattle.vrf_bitio.specs.Inner.Reader.{moved, TakesBits}
use Rattle.vrf_bitio.proofs.Laws.Bits.{bits_inside}
use Rattle.vrf_bitio.proofs.Laws.Cases.{by_order}
use Rattle.vrf_bitio.specs.declared.BitReader.{BitReader}
use Rattle.vrf_bitio.specs.declared.Refusal.{Refusal}

-- a reading that yields v and moves the reader by n bits
pub gave-moved : {A : Type 0} {x : Read A} (r : BitReader) (n : ℕ) {v : A} {d : BitReader} → d ≡ moved r n → x ≡ ok v (r.pos + n) (rest_of (moved r n)) → Gave r x v d
gave-moved r n ed e = rw ed (record { read = e; same = refl; first = refl; count = refl })

two : (x : ℕ) → x < 2 → cond (eqb x 1) 1 0 ≡ x
two zero h = refl
two (suc zero) h = refl
two (suc (suc x)) h = absurd (omega arith)

module _ (r : BitReader) (w : ℕ) (few : w ≤ 64) where
  pub bits-lacking : r.count - r.pos < w → bits_here r w ≡ refused 10 r.pos w
  unfolding bits
  bits-lacking h = rw (le-ltb 64 w few, lt-ltb (r.count - r.pos) w h)

  pub bits-found : w ≤ r.count - r.pos → {v : ℕ} → v ≡ bits_of r.«data».now (r.first + r.pos) w → bits_here r w ≡ ok v (r.pos + w) (rest_of (moved r w))
  unfolding bits
  bits-found h e = rw (le-ltb 64 w few, le-ltb (r.count - r.pos) w h, e)

-- bits that were taken, as the answer of `read_bits`
pub bits-taken : (r d : BitReader) (w : ℕ) → w ≤ 64 → (o : Result ℕ Refusal) → TakesBits r d w o → Answers r d (bits_here r w) o
bits-taken r d w few (Ok v) t = gave-moved r w t.1.1.1 (bits-found r w few t.0 t.1.0)
bits-taken r d w few (Err e) t = (rw t.1.0 (bits-lacking r w few t.0), t.1.1)

-- one bit, as a flag
pub flag : (s : List ℕ) (p q b : ℕ) → b ≡ get_or s (p / 8) 0 → p ≡ q → cond (eqb (b / 2 ^ (p % 8) % 2) 1) 1 0 ≡ bits_of s q 1
flag s p q b e eq = rw (e, ← eq, back) (sym (bits_inside s (p / 8) (p % 8) 1 (omega arith)) ∙ ap (λ (k : ℕ). bits_of s k 1) whole)
  where
    x : ℕ
    x = get_or s (p / 8) 0 / 2 ^ (p % 8) % 2

    whole : 8 * (p / 8) + p % 8 ≡ p
    whole = omega arith

    back : cond (eqb x 1) 1 0 ≡ x
    back = two x (mod-lt _ (omega arith))

module _ (s : List ℕ) (first count : ℕ) where
  pub window-large : 268435456 < length s → window s first count ≡ refused 43 0 0
  unfolding window
  window-large h = rw (lt-ltb 268435456 (length s) h)

  module _ (h : length s ≤ 268435456) where
    pub window-short : (left : ℕ) → left ≡ 8 * length s - first → left < count → window s first count ≡ refused 15 count left
    unfolding window
    window-short left e short = rw (le-ltb 268435456 (length s) h, ← e, lt-ltb left count short)

    -- past the end, where only an empty window opens, no bytes are left
    opened-rest : (e : ℕ) → count ≤ e - first → rest s first count 0 ≡ rest s (min first e) count 0
    unfolding rest bytes_of
    opened-rest e fits = by_order first e
        (λ inside. let same : min first e ≡ first = omega arith in rw same)
        (λ past. let none : count ≡ 0 = omega arith in rw none)

    pub window-opens : count ≤ 8 * length s - first → {at : ℕ} → at ≡ min first (8 * length s) → window s first count ≡ ok (at, count) 0 (rest s at count 0)
    unfolding window
    window-opens fits e =
        rw (le-ltb 268435456 (length s) h, le-ltb (8 * length s - first) count fits, e, opened-rest (8 * length s) fits)

module _ (r : BitReader) (n : ℕ) where
  pub inner-lacking : r.count - r.pos < n → inner r.«data».now r.first r.count n r.pos ≡ refused 10 r.pos n
  unfolding inner
  inner-lacking h = rw (lt-ltb (r.count - r.pos) n h)

  module _ (h : n ≤ r.count - r.pos) where
    pub inner-refused : {k a b : ℕ} → window r.«data».now (r.first + r.pos) n ≡ refused k a b → inner r.«data».now r.first r.count n r.pos ≡ refused k a b
    unfolding inner bind_read
    inner-refused e = rw (le-ltb (r.count - r.pos) n h, e)

    pub inner-found : {w : ℕ × ℕ} {p : ℕ} {l : List ℕ} → window r.«data».now (r.first + r.pos) n ≡ ok w p l → inner r.«data».now r.first r.count n r.pos ≡ ok w (r.pos + n) (rest_of (moved r n))
    unfolding inner bind_read
    inner-found e = rw (le-ltb (r.count - r.pos) n h, e)

-- a window opens at its position 0
pub window-start : (s : List ℕ) (first count : ℕ) {w : ℕ × ℕ} {p : ℕ} {l : List ℕ} → window s first count ≡ ok w p l → p ≡ 0
unfolding window
window-start s first count {w} {p} {l} e = ap position (sym e) ∙ cases (ltb 268435456 (length s)) (ltb (8 * length s - first) count)
  where
    position : Read (ℕ × ℕ) → ℕ
    position (ok a q m) = q
    position (refused k a b) = 0

    cases : (x y : Bool) → position (cond x (refused 43 0 0) (cond y (refused 15 count (8 * length s - first)) (ok (min first (8 * length s), count) 0 (rest s first count 0)))) ≡ 0
    cases true y = refl
    cases false true = refl
    cases false false = refl

module _ (r : BitReader) (m n : ℕ) where
  pub copy-short : m < bytes_for n → copied r.«data».now r.first r.count m n r.pos ≡ refused 15 n (8 * m)
  unfolding copied
  copy-short h = rw (lt-ltb m (bytes_for n) h)

  module _ (space : bytes_for n ≤ m) where
    pub copy-lacking : r.count - r.pos < n → copied r.«data».now r.first r.count m n r.pos ≡ refused 10 r.pos n
    unfolding copied
    copy-lacking h = rw (le-ltb m (bytes_for n) space, lt-ltb (r.count - r.pos) n h)

    pub copy-found : n ≤ r.count - r.pos → copied r.«data».now r.first r.count m n r.pos ≡ ok (packed_bits r.«data».now (r.first + r.pos) n (bytes_for n)) (r.pos + n) (rest_of (moved r n))
    unfolding copied
    copy-found h = rw (le-ltb m (bytes_for n) space, le-ltb (r.count - r.pos) n h)
