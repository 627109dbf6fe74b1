-- Bytes and units of UTF-16 as runs of numbers, and the words that hold the first of them.
use mathlib.Core.Bool.{Bool, true, false, cond}
use mathlib.Core.List.{List, ◌∷◌}
use mathlib.Core.Path.{◌≡◌, refl, sym, ap, ◌∙◌}
use Prim.Native.Nat.{ℕ, zero, suc, ◌+◌, ◌-◌, ◌*◌, ◌≤◌, ◌<◌, min}
use native.Mathlib.Nat.{mod-eq_of_lt}
use native.Mathlib.Omega.{arith}
use lib.Dec.{eqb}
use lib.ListN.{length, get_or, take, drop, length-take, length-drop}
use lib.Seq.{get_or-take, get_or-drop, ext_get_or}
use Rattle.vrf_bitio.specs.Bits.{bits_of, bytes_of, packed_bits}
use Rattle.vrf_bitio.proofs.Laws.Runs.{runs, run_length, run_at, run_take, run_drop, bytes_run}
use Rattle.vrf_bitio.proofs.Laws.Bits.{bits-lt, bits-split, bits-low, bits-high, bits-byte, bytes_drop}
use Rattle.vrf_text.specs.Utf16.{units}
use Rattle.vrf_text.specs.Text.{drop_zero}
use Rattle.vrf_text.specs.Inner.Steps.{byte_of, WordHolds, WordHolds16}
use Rattle.vrf_text.specs.Inner.Spans.{units_of}

module _ (w : ℕ) (s : List ℕ) where
  -- one final zero dropped
  pub run-trim : (q n : ℕ) (t : Bool) → eqb (bits_of s (q + w * n) w) 0 ≡ t → drop_zero (runs w s q (suc n)) ≡ runs w s q (cond t n (suc n))
  unfolding runs drop_zero
  run-trim q zero true e =
      let here : q + w * 0 ≡ q = omega arith in
      let e' : eqb (bits_of s q w) 0 ≡ true = rw here at e in
      rw e'
  run-trim q zero false e =
      let here : q + w * 0 ≡ q = omega arith in
      let e' : eqb (bits_of s q w) 0 ≡ false = rw here at e in
      rw e'
  run-trim q (suc n) t e =
      let last : q + w * suc n ≡ q + w + w * n = omega arith in
      let e' : eqb (bits_of s (q + w + w * n) w) 0 ≡ t = rw last at e in
      ap (◌∷◌ (bits_of s q w)) (run-trim (q + w) n t e') ∙ more t
    where
      more : (t : Bool) → bits_of s q w ∷ runs w s (q + w) (cond t n (suc n)) ≡ runs w s q (cond t (suc n) (suc (suc n)))
      more true = refl
      more false = refl

-- ---- bytes

-- whole bytes copied as bits
pub packed-run : (s : List ℕ) (q k : ℕ) → packed_bits s q (8 * k) k ≡ runs 8 s q k
unfolding packed_bits runs
packed-run s q zero = refl
packed-run s q (suc k) =
    let full : min 8 (8 * suc k) ≡ 8 = omega arith in
    let left : 8 * suc k - 8 ≡ 8 * k = omega arith in
    rw (full, left, packed-run s (q + 8) k)

none : (j : ℕ) → byte_of 0 j ≡ 0
unfolding byte_of
none zero = refl
none (suc j) = none j

-- byte j of the number made of 8 * k bits is the byte at that place, and 0 past the end
byte-of-bits : (s : List ℕ) (q k j : ℕ) → byte_of (bits_of s q (8 * k)) j ≡ get_or (runs 8 s q k) j 0
unfolding runs bits_of byte_of
byte-of-bits s q zero j = none j
byte-of-bits s q (suc k) zero =
    let e : 8 * suc k ≡ 8 + 8 * k = omega arith in
    rw e (bits-low s q 8 (8 * k))
byte-of-bits s q (suc k) (suc j) =
    let e : 8 * suc k ≡ 8 + 8 * k = omega arith in
    rw (e, bits-high s q 8 (8 * k)) (byte-of-bits s (q + 8) k j)

module _ (s : List ℕ) {w : ℕ} where
  all-there : (q n : ℕ) → w ≡ bits_of s q (8 * n) → WordHolds w (bytes_of s q n)
  all-there q n e j h = rw (e, bytes_run s q n) (sym (byte-of-bits s q n j))

  eight-there : (q n : ℕ) → 8 ≤ n → w ≡ bits_of s q 64 → WordHolds w (bytes_of s q n)
  eight-there q n k e j h =
      rw (e, bytes_run s q n) (sym (get_or-take 8 (runs 8 s q n) j 0 h) ∙ rw (run_take 8 s q 8 n k) (sym (byte-of-bits s q 8 j)))

  -- of the n bytes at bit q, a word of all those from place i on, and a word of the eight from there on
  pub holds-all : (q n i : ℕ) → w ≡ bits_of s (q + 8 * i) (8 * (n - i)) → WordHolds w (drop i (bytes_of s q n))
  holds-all q n i e = rw (bytes_drop s q i n) (all-there (q + 8 * i) (n - i) e)

  pub holds-eight : (q n i : ℕ) → 8 ≤ n - i → w ≡ bits_of s (q + 8 * i) 64 → WordHolds w (drop i (bytes_of s q n))
  holds-eight q n i k e = rw (bytes_drop s q i n) (eight-there (q + 8 * i) (n - i) k e)

module _ (s : List ℕ) (b : (k : ℕ) → get_or s k 0 < 256) where
  byte-in : (i n j : ℕ) → j < n → get_or (runs 8 s (8 * i) n) j 0 ≡ get_or s (i + j) 0
  byte-in i n j h =
      let p : 8 * i + 8 * j ≡ 8 * (i + j) = omega arith in
      run_at 8 s (8 * i) n j h ∙ rw p (bits-byte s (i + j) (b (i + j)))

  -- a word of eight bytes of the slice itself
  pub holds-in : {w : ℕ} (i : ℕ) → w ≡ bits_of s (8 * i) 64 → WordHolds w (drop i s)
  holds-in i e j h = get_or-drop i s j 0 ∙ sym (rw e (byte-of-bits s (8 * i) 8 j) ∙ byte-in i 8 j h)

  -- n bytes from place a on
  pub part : (a n : ℕ) → a + n ≤ length s → take (a + n - a) (drop a s) ≡ bytes_of s (8 * a) n
  part a n h =
      let size : a + n - a ≡ n = omega arith in
      let few : length (take n (drop a s)) ≡ n = rw (length-take, length-drop) (omega arith) in
      let same : take n (drop a s) ≡ runs 8 s (8 * a) n
      = ext_get_or 0 (take n (drop a s)) (runs 8 s (8 * a) n) (few ∙ sym (run_length 8 s (8 * a) n)) λ i k.
      let j : i < n = rw few at k in
      get_or-take n (drop a s) i 0 j ∙ get_or-drop a s i 0 ∙ sym (byte-in a n i j) in
      rw size (same ∙ sym (bytes_run s (8 * a) n))

-- ---- units

pub units-run : (s : List ℕ) (q n : ℕ) → units_of s q n ≡ runs 16 s q n
unfolding bytes_of runs units
units-run s q zero = refl
units-run s q (suc n) =
    let two : 2 * suc n ≡ suc (suc (2 * n)) = omega arith in
    let next : q + 8 + 8 ≡ q + 16 = omega arith in
    rw (two, next, units-run s (q + 16) n, bits-split s q 8 8)

pub units-length : (s : List ℕ) (q n : ℕ) → length (units_of s q n) ≡ n
units-length s q n = rw (units-run s q n) (run_length 16 s q n)

units-drop : (s : List ℕ) (q k n : ℕ) → drop k (units_of s q n) ≡ units_of s (q + 16 * k) (n - k)
units-drop s q k n = rw (units-run s q n, units-run s (q + 16 * k) (n - k)) (run_drop 16 s q k n)

module _ (s : List ℕ) {w : ℕ} where
  last-there : (q n : ℕ) → n ≡ 1 → w ≡ bits_of s q 16 → WordHolds16 w (units_of s q n)
  unfolding runs
  last-there q n one e = rw (one, e, units-run s q 1) record {
    any = omega arith;
    first = sym (mod-eq_of_lt (bits-lt s q 16));
    second = omega (arith, bits-lt s q 16);
  }

  two-there : (q n : ℕ) → 2 ≤ n → w ≡ bits_of s q 32 → WordHolds16 w (units_of s q n)
  two-there q n h e =
      let here : q + 16 * 0 ≡ q = omega arith in
      rw (e, units-run s q n) record {
        any = rw (run_length 16 s q n) (omega arith);
        first = run_at 16 s q n 0 (omega arith) ∙ rw here (sym (bits-low s q 16 16));
        second = run_at 16 s q n 1 h ∙ sym (rw (bits-high s q 16 16) (mod-eq_of_lt (bits-lt s (q + 16) 16)));
      }

  -- of the n units at bit q, a word of the last one, and a word of the two from place i on
  pub holds-last : (q n i : ℕ) → n - i ≡ 1 → w ≡ bits_of s (q + 16 * i) 16 → WordHolds16 w (drop i (units_of s q n))
  holds-last q n i one e = rw (units-drop s q i n) (last-there (q + 16 * i) (n - i) one e)

  pub holds-two : (q n i : ℕ) → 2 ≤ n - i → w ≡ bits_of s (q + 16 * i) 32 → WordHolds16 w (drop i (units_of s q n))
  holds-two q n i h e = rw (units-drop s q i n) (two-there (q + 16 * i) (n - i) h e)
