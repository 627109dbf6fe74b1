-- ASCII bytes by one test: in each byte of a word the top bit is 0. The test works for any bit b of a byte, because bytes that begin inside
-- a byte of the slice have their top bits at a lower place.
use mathlib.Core.List.{List}
use mathlib.Core.Path.{◌≡◌, sym, ap, ◌∙◌}
use Prim.Native.Nat.{ℕ, zero, suc, ◌+◌, ◌-◌, ◌*◌, ◌/◌, ◌%◌, ◌^◌, ◌≤◌, ◌<◌}
use native.Mathlib.Nat.{le_of_suc-le-suc, zero-div}
use native.Mathlib.Omega.{arith}
use lib.Bits.{bit_and, bit_or, and_mod, and_shr, and_high, and_le_l, and_le_r, or_add_and}
use lib.ListN.{take, drop}
use lib.Pow.{pow-lt, pow-add, shl-shr}
use lib.Seq.{get_or-take, get_or-drop}
use Rattle.vrf_bitio.specs.Bits.{bit_of, bits_of, bytes_of, Bytes}
use Rattle.vrf_bitio.proofs.Laws.Cases.{by_order}
use Rattle.vrf_bitio.proofs.Laws.Runs.{run_at, bytes_run}
use Rattle.vrf_bitio.proofs.Laws.Bits.{bits-lt, bits-split}
use Rattle.vrf_text.specs.Utf8.{utf8}
use Rattle.vrf_text.specs.Inner.Steps.{byte_of, WordHolds, Clear}
use Rattle.vrf_text.proofs.Laws.Utf8.{utf8-ascii}
use Rattle.vrf_text.proofs.Runs.{holds-in}

-- bit b of each of k bytes
marks : ℕ → ℕ → ℕ
marks b zero = 0
marks b (suc k) = 256 * marks b k + 2 ^ b

-- if x and 2 ^ b have no bit in common, bit b of x is 0
unset : (x b : ℕ) → bit_and x (2 ^ b) ≡ 0 → x / 2 ^ b % 2 ≡ 0
unset x b e =
    let one : 2 ^ (1 + b) - 2 ^ b ≡ 2 ^ b = omega (arith, pow-add 2 1 b) in
    let t : (x / 2 ^ b % 2) * 2 ^ b ≡ 0 = sym (and_high x 1 b) ∙ ap (bit_and x) one ∙ e in
    sym (shl-shr (x / 2 ^ b % 2) b) ∙ ap (λ (y : ℕ). y / 2 ^ b) t ∙ zero-div (2 ^ b)

module _ (b : ℕ) (h : b < 8) where
  small : 2 ^ b < 256
  small = pow-lt {i = b} {j = 8} h

  unmarked : (k w : ℕ) → bit_and w (marks b k) ≡ 0 → (j : ℕ) → j < k → byte_of w j / 2 ^ b % 2 ≡ 0
  unfolding marks byte_of
  unmarked zero w e j l = absurd (omega arith)
  unmarked (suc k) w e zero l =
      let m : (256 * marks b k + 2 ^ b) % 256 ≡ 2 ^ b = omega (arith, small) in
      unset (w % 256) b (ap (bit_and (w % 256)) (sym m) ∙ sym (and_mod w (256 * marks b k + 2 ^ b) 8) ∙ rw e)
  unmarked (suc k) w e (suc j) l =
      let m : (256 * marks b k + 2 ^ b) / 256 ≡ marks b k = omega (arith, small) in
      unmarked k (w / 256) (ap (bit_and (w / 256)) (sym m) ∙ sym (and_shr w (256 * marks b k + 2 ^ b) 8) ∙ rw e) j (le_of_suc-le-suc l)

  -- the mask that the code computes
  mask : 0x0101010101010101 * 2 ^ b % 2 ^ 64 ≡ marks b 8
  unfolding marks
  mask = omega (arith, small)

byte-lt : (w j : ℕ) → byte_of w j < 256
unfolding byte_of
byte-lt w zero = omega arith
byte-lt w (suc j) = byte-lt (w / 256) j

-- the first k of eight bytes are ASCII, by the test of their word
ascii : (k : ℕ) → k ≤ 8 → (w : ℕ) → bit_and w (marks 7 k) ≡ 0 → (l : List ℕ) → WordHolds w l → utf8 (drop k l) ≡ utf8 l
ascii k few w e l h = utf8-ascii k l λ i j. omega (arith, h i (omega arith), byte-lt w i, unmarked 7 (omega arith) k w e i j)

pub ascii-8 : (w : ℕ) → bit_and w 0x8080808080808080 ≡ 0 → (l : List ℕ) → WordHolds w l → utf8 (drop 8 l) ≡ utf8 l
unfolding marks
ascii-8 = ascii 8 (omega arith)

pub ascii-4 : (w : ℕ) → bit_and w 0x80808080 ≡ 0 → (l : List ℕ) → WordHolds w l → utf8 (drop 4 l) ≡ utf8 l
unfolding marks
ascii-4 = ascii 4 (omega arith)

-- bit b is 0 in i bytes and in the n bytes after them
pub clear-on : (l : List ℕ) (b i n : ℕ) → Clear l b i → Clear (drop i l) b n → Clear l b (i + n)
clear-on l b i n c d j h = by_order i j
    (λ k. let back : i + (j - i) ≡ j = omega arith in
    rw (get_or-drop i l (j - i) 0, back) at (d (j - i) (omega arith)))
    (λ k. c j k)

-- an `or` that is 0 has both sides 0
both : (x y : ℕ) → bit_or x y ≡ 0 → (x ≡ 0) × (y ≡ 0)
both x y e = (omega (arith, or_add_and x y, and_le_l x y, and_le_r x y), omega (arith, or_add_and x y, and_le_l x y, and_le_r x y))

-- the four words of `clear_32`
module _ (s : List ℕ) (bytes : Bytes s) (b : ℕ) (h : b < 8) where
  word : (i : ℕ) {w : ℕ} → w ≡ bits_of s (8 * i) 64 → bit_and w (0x0101010101010101 * 2 ^ b % 2 ^ 64) ≡ 0 → Clear (drop i s) b 8
  word i {w} e t j k = rw (holds-in s bytes i e j k) (unmarked b h 8 w (ap (bit_and w) (sym (mask b h)) ∙ t) j k)

  pub four : {x y z w : ℕ} → x ≡ bits_of s 0 64 → y ≡ bits_of s 64 64 → z ≡ bits_of s 128 64 → w ≡ bits_of s 192 64
      → bit_or (bit_or (bit_or (bit_and x (0x0101010101010101 * 2 ^ b % 2 ^ 64)) (bit_and y (0x0101010101010101 * 2 ^ b % 2 ^ 64))) (bit_and z (0x0101010101010101 * 2 ^ b % 2 ^ 64))) (bit_and w (0x0101010101010101 * 2 ^ b % 2 ^ 64)) ≡ 0
      → Clear s b 32
  four ex ey ez ew e =
      let xyz-w = both _ _ e in
      let xy_z = both _ _ xyz-w.0 in
      let x-y = both _ _ xy_z.0 in
      clear-on s b 24 8 (clear-on s b 16 8 (clear-on s b 8 8 (word 0 ex x-y.0) (word 8 ey x-y.1)) (word 16 ez xy_z.1)) (word 24 ew xyz-w.1)

-- bytes whose top bits are 0 may be passed
pub clear-passed : (l : List ℕ) → Bytes l → (n : ℕ) → Clear l 7 n → utf8 (drop n l) ≡ utf8 l
clear-passed l bytes n c = utf8-ascii n l λ i k. omega (arith, bytes i, c i k)

-- a byte at bit p whose top bit is 0 is ASCII
top : (s : List ℕ) (p : ℕ) → bit_of s (p + 7) ≡ 0 → bits_of s p 8 ≤ 0x7F
unfolding bits_of
top s p e = omega (arith, bits-split s p 7 1, bits-lt s p 7)

-- r bytes at bit p are ASCII if their top bits, found in the bytes of the slice, are 0
module _ (s : List ℕ) (p n r : ℕ) (few : r ≤ n) (c : Clear (take ((p + 7) / 8 + n - (p + 7) / 8) (drop ((p + 7) / 8) s)) ((p + 7) % 8) r) where
  high : (j : ℕ) → j < r → bit_of s (p + 8 * j + 7) ≡ 0
  unfolding bit_of
  high j k =
      let a : ℕ = (p + 7) / 8 in
      let byte : (p + 8 * j + 7) / 8 ≡ a + j = omega arith in
      let bit : (p + 8 * j + 7) % 8 ≡ (p + 7) % 8 = omega arith in
      rw (byte, bit) (rw (get_or-take (a + n - a) (drop a s) j 0 (omega arith), get_or-drop a s j 0) at (c j k))

  pub clear_at : utf8 (drop r (bytes_of s p n)) ≡ utf8 (bytes_of s p n)
  clear_at = utf8-ascii r (bytes_of s p n) λ j k. rw (bytes_run s p n, run_at 8 s p n j (omega arith)) (top s (p + 8 * j) (high j k))
