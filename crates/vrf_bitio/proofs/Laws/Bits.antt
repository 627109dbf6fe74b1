-- Laws of the bits of a slice: splitting a run of bits, bits inside one byte, whole bytes, and bits past the end.
use Rattle.std.specs.Prelude.{◌≡◌, refl, List, ℕ, zero, suc, ◌+◌, ◌-◌, ◌*◌, ◌/◌, ◌%◌, ◌^◌, ◌<◌, ◌≤◌, length, get_or, take, drop}
use Rattle.std.proofs.Common.{sym, ◌∙◌, add-zero, zero-add, mod-lt, mod-eq_of_lt, suc-add, div-one, add-one, arith, drop-cons, pow_pos, pow-add}
use Rattle.std.proofs.Math.Nat.{pow-succ', add-mul-div_left, div-eq_of_lt, add-mul-mod_self_left, div-div-eq-div-mul, mod-one, zero-div}
use Rattle.std.proofs.Math.ListN.{get_or-eq_default}
use Rattle.std.proofs.lemmas.Nat.{mod-pow-add}
use Rattle.vrf_bitio.specs.Bits.{bit_of, bits_of, bytes_of, Bytes}
use Rattle.vrf_bitio.proofs.Laws.Runs.{run_take, run_drop, bytes_run}

pub bit_of-lt : (s : List ℕ) (i : ℕ) → bit_of s i < 2
unfolding bit_of
bit_of-lt s i = mod-lt _ (omega arith)

-- w bits make a number below 2^w
pub bits-lt : (s : List ℕ) (p w : ℕ) → bits_of s p w < 2 ^ w
unfolding bits_of
bits-lt s p zero = omega arith
bits-lt s p (suc w) = rw (pow-succ' 2 w) (omega (arith, bit_of-lt s p, bits-lt s (p + 1) w))

-- v + w bits are the first v bits and, above them, the other w
pub bits-split : (s : List ℕ) (p v w : ℕ) → bits_of s p (v + w) ≡ bits_of s p v + 2 ^ v * bits_of s (p + v) w
unfolding bits_of
bits-split s p zero w = rw (zero-add, add-zero) (omega arith)
bits-split s p (suc v) w = rw (suc-add v w, pow-succ' 2 v, bits-split s (p + 1) v w, moved) (omega arith)
  where
    moved : p + 1 + v ≡ p + suc v
    moved = omega arith

-- of v + w bits: those above the first v, and the first v
pub bits-high : (s : List ℕ) (p v w : ℕ) → bits_of s p (v + w) / 2 ^ v ≡ bits_of s (p + v) w
bits-high s p v w = rw bits-split (add-mul-div_left (bits_of s p v) (bits_of s (p + v) w) (pow_pos v) ∙ rw (div-eq_of_lt (bits-lt s p v)) (zero-add _))

pub bits-low : (s : List ℕ) (p v w : ℕ) → bits_of s p (v + w) % 2 ^ v ≡ bits_of s p v
bits-low s p v w = rw bits-split (add-mul-mod_self_left (bits_of s p v) (2 ^ v) (bits_of s (p + v) w) ∙ mod-eq_of_lt (bits-lt s p v))

-- bits inside one byte
pub bits_inside : (s : List ℕ) (i k w : ℕ) → k + w ≤ 8 → bits_of s (8 * i + k) w ≡ get_or s i 0 / 2 ^ k % 2 ^ w
unfolding bits_of bit_of
bits_inside s i k zero h = sym (mod-one (get_or s i 0 / 2 ^ k))
bits_inside s i k (suc w) h =
    let h' : (k + 1) + w ≤ 8 = omega arith in
    let here : (8 * i + k) / 8 ≡ i = omega arith in
    let at : (8 * i + k) % 8 ≡ k = omega arith in
    let next : 8 * i + k + 1 ≡ 8 * i + (k + 1) = omega arith in
    rw (here, at, next, bits_inside s i (k + 1) w h', pow-add 2 k 1, ← div-div-eq-div-mul) (regroup (get_or s i 0 / 2 ^ k) w)
  where
    regroup : (x w : ℕ) → x % 2 + 2 * (x / 2 % 2 ^ w) ≡ x % 2 ^ suc w
    regroup x w = rw (← add-one w, mod-pow-add x w 1) (omega arith)

-- the eight bits at a byte's start are that byte
pub bits-byte : (s : List ℕ) (i : ℕ) → get_or s i 0 < 256 → bits_of s (8 * i) 8 ≡ get_or s i 0
bits-byte s i h =
    let start : 8 * i + 0 ≡ 8 * i = omega arith in
    rw (← start, bits_inside s i 0 8 (omega arith), div-one) (mod-eq_of_lt h)

-- 8 + w bits at a byte's start are that byte and, above it, the w bits after it
pub bits-cons : (s : List ℕ) (i w : ℕ) → get_or s i 0 < 256 → bits_of s (8 * i) (8 + w) ≡ get_or s i 0 + 256 * bits_of s (8 * (i + 1)) w
bits-cons s i w h =
    let next : 8 * i + 8 ≡ 8 * (i + 1) = omega arith in
    rw (bits-split s (8 * i) 8 w, bits-byte s i h, next)

-- past the end every bit is 0
pub bits-past : (s : List ℕ) (p w : ℕ) → 8 * length s ≤ p → bits_of s p w ≡ 0
unfolding bits_of bit_of
bits-past s p zero h = refl
bits-past s p (suc w) h =
    let past : length s ≤ p / 8 = omega arith in
    rw (get_or-eq_default s 0 past, zero-div (2 ^ (p % 8)), bits-past s (p + 1) w (omega arith))

-- the first n of k whole bytes, and those after the first n
pub bytes_take : (s : List ℕ) (p n k : ℕ) → n ≤ k → take n (bytes_of s p k) ≡ bytes_of s p n
bytes_take s p n k h = rw (bytes_run s p k, bytes_run s p n) (run_take 8 s p n k h)

pub bytes_drop : (s : List ℕ) (p n k : ℕ) → drop n (bytes_of s p k) ≡ bytes_of s (p + 8 * n) (k - n)
bytes_drop s p n k = rw (bytes_run s p k, bytes_run s (p + 8 * n) (k - n)) (run_drop 8 s p n k)

-- n whole bytes from the start of byte i on are n elements of the list, from place i on
pub bytes-aligned : (s : List ℕ) → Bytes s → (n i : ℕ) → i + n ≤ length s → bytes_of s (8 * i) n ≡ take n (drop i s)
unfolding bytes_of
bytes-aligned s h zero i fits = refl
bytes-aligned s h (suc n) i fits =
    let next : 8 * i + 8 ≡ 8 * suc i = omega arith in
    rw (drop-cons s i 0 (omega arith), bits-byte s i (h i), next, bytes-aligned s h n (suc i) (omega arith))
