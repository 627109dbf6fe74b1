-- Lemmas for the functions that load words: bytes and loads combined, low bits first.
use Rattle.std.specs.Prelude.{◌≡◌, refl, List, ℕ, suc, ◌+◌, ◌-◌, ◌*◌, ◌/◌, ◌%◌, ◌^◌, ◌<◌, ◌≤◌, length, get_or, take, drop}
use Rattle.std.proofs.Common.{sym, ap, ◌∙◌, arith, get_or-take, get_or-drop}
use mathlib.Core.Path.{subst}
use native.Mathlib.Nat.{lt_of_lt_of_le, mod-lt, one-mul, suc-mul, mul_comm, mul_assoc, mul-mod_left, mul-le-mul_right, div-one, mod-eq_of_lt}
use lib.Pow.{pow_pos, pow-lt, pow_mono, pow-add, mod-pow-add, field, shr_lt, shl-shr, shl_exact}
use Rattle.vrf_bitio.specs.Bits.{bits_of}
use Rattle.vrf_bitio.proofs.Laws.Bits.{bits-cons, bits-lt, bits-split, bits-high, bits-low, bits_inside, bits-past}

-- no bits make 0
pub no_bits : (s : List ℕ) (p : ℕ) → bits_of s p 0 ≡ 0
unfolding bits_of
no_bits s p = refl

-- x is `s[i..i + 8]`: its eight bytes make 64 bits
module _ (s : List ℕ) (i : ℕ) {x : List ℕ} (same : x ≡ take (i + 8 - i) (drop i s)) (small : (k : ℕ) → get_or s k 0 < 256) where
  byte : (k : ℕ) → k < 8 → get_or x k 0 ≡ get_or s (i + k) 0
  byte k h = rw same (get_or-take (i + 8 - i) (drop i s) k 0 (omega arith) ∙ get_or-drop i s k 0)

  from : (k w : ℕ) → bits_of s (8 * (i + k)) (8 + w) ≡ get_or s (i + k) 0 + 256 * bits_of s (8 * (i + suc k)) w
  from k w =
      let next : i + k + 1 ≡ i + suc k = omega arith in
      rw (← next) (bits-cons s (i + k) w (small (i + k)))

  pub eight : get_or x 0 0 + get_or x 1 0 * 256 + get_or x 2 0 * 65536 + get_or x 3 0 * 16777216
      + get_or x 4 0 * 4294967296 + get_or x 5 0 * 1099511627776 + get_or x 6 0 * 281474976710656 + get_or x 7 0 * 72057594037927936
      ≡ bits_of s (8 * i) 64
  eight =
      let start : i + 0 ≡ i = omega arith in
      rw (← start) (omega (arith, byte 0 (omega arith), byte 1 (omega arith), byte 2 (omega arith), byte 3 (omega arith), byte 4 (omega arith), byte 5 (omega arith), byte 6 (omega arith), byte 7 (omega arith), from 0 56, from 1 48, from 2 40, from 3 32, from 4 24, from 5 16, from 6 8, from 7 0, no_bits s (8 * (i + 8))))

-- The loop of `load_u64_padded`, down to place k: the word is the bits from byte k on, or from byte i on if k is before it.
abbrev pub Loaded : List ℕ → ℕ → ℕ → ℕ → Type 0
Loaded s i k word = word ≡ bits_of s (8 * (i + (k - i))) (64 - 8 * (k - i))

-- at its start no byte is left from place k on
pub start : (s : List ℕ) (i : ℕ) → Loaded s i (length s) 0
start s i = sym (bits-past s _ _ (omega arith))

-- one more byte below the word so far
pub below : (s : List ℕ) (i k word : ℕ) → i < k → k ≤ i + 8 → get_or s (k - 1) 0 < 256 → Loaded s i k word → Loaded s i (k - 1) (word * 256 + get_or s (k - 1) 0)
below s i k word more near h e =
    let at : i + (k - 1 - i) ≡ k - 1 = omega arith in
    let w : 64 - 8 * (k - 1 - i) ≡ 8 + (64 - 8 * (k - i)) = omega arith in
    let n : k - 1 + 1 ≡ i + (k - i) = omega arith in
    rw (at, w, bits-cons s (k - 1) (64 - 8 * (k - i)) h, n) (omega arith)

-- w bits make a number below 2^n if w ≤ n
pub bits_below : (s : List ℕ) (p w n : ℕ) → w ≤ n → bits_of s p w < 2 ^ n
bits_below s p w n h = lt_of_lt_of_le (bits-lt s p w) (pow_mono h)

-- while a byte is missing the word is below 2^56, so the byte fits below it
pub fits : (s : List ℕ) (i k word : ℕ) → i < k → Loaded s i k word → word < 2 ^ 56
fits s i k word h e = rw e (bits_below s _ _ 56 (omega arith))

-- the low w of 64 bits, computed by two shifts
pub low : (x w : ℕ) → w ≤ 64 → x * 2 ^ (64 - w) % 2 ^ 64 / 2 ^ (64 - w) ≡ x % 2 ^ w
low x w h =
    let e : w + (64 - w) ≡ 64 = omega arith in
    subst (λ (n : ℕ). x * 2 ^ (64 - w) % 2 ^ n / 2 ^ (64 - w) ≡ x % 2 ^ w) e (field (x * 2 ^ (64 - w)) w (64 - w) ∙ ap (λ (y : ℕ). y % 2 ^ w) (shl-shr x (64 - w)))

-- a load from bit q on: its bits above the first off, and its low off bits
module _ (s : List ℕ) (q off word : ℕ) (h : off ≤ 64) (e : word ≡ bits_of s q 64) where
  all : off + (64 - off) ≡ 64
  all = omega arith

  shifted : word / 2 ^ off ≡ bits_of s (q + off) (64 - off)
  shifted = rw e (subst (λ (n : ℕ). bits_of s q n / 2 ^ off ≡ bits_of s (q + off) (64 - off)) all (bits-high s q off (64 - off)))

  pub cut : word % 2 ^ off ≡ bits_of s q off
  cut = rw e (subst (λ (n : ℕ). bits_of s q n % 2 ^ off ≡ bits_of s q off) all (bits-low s q off (64 - off)))

-- the 64 bits from bit off on of two successive loads
pub join : (s : List ℕ) (q off carry next : ℕ) → off ≤ 64 → carry ≡ bits_of s q 64 → next ≡ bits_of s (q + 64) 64
    → carry / 2 ^ off + next % 2 ^ off * 2 ^ (64 - off) ≡ bits_of s (q + off) 64
join s q off carry next h ec en =
    let all : (64 - off) + off ≡ 64 = omega arith in
    let following : q + off + (64 - off) ≡ q + 64 = omega arith in
    let both : bits_of s (q + off) 64 ≡ bits_of s (q + off) (64 - off) + 2 ^ (64 - off) * bits_of s (q + 64) off = ap (bits_of s (q + off)) (sym all) ∙ bits-split s (q + off) (64 - off) off ∙ rw following in
    rw (shifted s q off carry h ec, cut s (q + 64) off next h en, both, mul_comm (2 ^ (64 - off)))

-- the second load's part of these, computed by two shifts
pub upper : (x off : ℕ) → off < 64 → x * 2 ^ (63 - off) % 2 ^ 64 * 2 ^ 1 % 2 ^ 64 ≡ x % 2 ^ off * 2 ^ (64 - off)
upper x off h =
    let one : (63 - off) + 1 ≡ 64 - off = omega arith in
    let all : off + (64 - off) ≡ 64 = omega arith in
    let power : x * 2 ^ (63 - off) * 2 ≡ x * 2 ^ (64 - off) = mul_assoc x (2 ^ (63 - off)) 2 ∙ ap (λ (y : ℕ). x * y) (sym (pow-add 2 (63 - off) 1) ∙ ap (λ (k : ℕ). 2 ^ k) one) in
    let twice : x * 2 ^ (63 - off) % 2 ^ 64 * 2 % 2 ^ 64 ≡ x * 2 ^ (63 - off) * 2 % 2 ^ 64 = omega arith in
    let fields : x * 2 ^ (64 - off) % 2 ^ 64 ≡ x % 2 ^ off * 2 ^ (64 - off) + 0 = ap (λ (k : ℕ). x * 2 ^ (64 - off) % 2 ^ k) (sym all) ∙ mod-pow-add (x * 2 ^ (64 - off)) off (64 - off) ∙ rw (shl-shr x (64 - off), mul-mod_left x (2 ^ (64 - off))) in
    twice ∙ ap (λ (y : ℕ). y % 2 ^ 64) power ∙ fields ∙ omega arith

-- the sum of both parts fits a word
pub join-fits : (carry next off : ℕ) → off < 64 → carry < 2 ^ 64 → carry / 2 ^ off + next * 2 ^ (63 - off) % 2 ^ 64 * 2 ^ 1 % 2 ^ 64 < 2 ^ 64
join-fits carry next off h hc =
    let all : (64 - off) + off ≡ 64 = omega arith in
    let all' : off + (64 - off) ≡ 64 = omega arith in
    let low : carry / 2 ^ off < 2 ^ (64 - off) = shr_lt (64 - off) off (subst (λ (k : ℕ). carry < 2 ^ k) (sym all) hc) in
    let space : suc (next % 2 ^ off) * 2 ^ (64 - off) ≤ 2 ^ off * 2 ^ (64 - off) = mul-le-mul_right (2 ^ (64 - off)) (mod-lt next (pow_pos off)) in
    let power : 2 ^ off * 2 ^ (64 - off) ≡ 2 ^ 64 = sym (pow-add 2 off (64 - off)) ∙ ap (λ (k : ℕ). 2 ^ k) all' in
    rw (upper next off h) (omega (arith, suc-mul (next % 2 ^ off) (2 ^ (64 - off))))

-- a load at p's byte, shifted to p
aligned : (s : List ℕ) (p word : ℕ) → word ≡ bits_of s (8 * (p / 8)) 64 → word / 2 ^ (p % 8) ≡ bits_of s p (64 - p % 8)
aligned s p word e =
    let ep : 8 * (p / 8) + p % 8 ≡ p = omega arith in
    shifted s (8 * (p / 8)) (p % 8) word (omega arith) e ∙ ap (λ (q : ℕ). bits_of s q (64 - p % 8)) ep

-- bits that one load holds
pub within : (s : List ℕ) (p w word : ℕ) → word ≡ bits_of s (8 * (p / 8)) 64 → w ≤ 64 - p % 8 → word / 2 ^ (p % 8) % 2 ^ w ≡ bits_of s p w
within s p w word e h = rw shifted (subst (λ (n : ℕ). bits_of s p n % 2 ^ w ≡ bits_of s p w) left (bits-low s p w (64 - p % 8 - w)))
  where
    left : w + (64 - p % 8 - w) ≡ 64 - p % 8
    left = omega arith

    shifted : word / 2 ^ (p % 8) ≡ bits_of s p (64 - p % 8)
    shifted = aligned s p word e

-- bits that one load and the byte after it hold
pub across : (s : List ℕ) (p w word b : ℕ) → word ≡ bits_of s (8 * (p / 8)) 64 → 64 - p % 8 < w → w ≤ 64 → b ≡ get_or s (p / 8 + 8) 0
    → word / 2 ^ (p % 8) + b % (1 * 2 ^ (w - (64 - p % 8)) % 2 ^ 64) * 2 ^ (64 - p % 8) % 2 ^ 64 ≡ bits_of s p w
across s p w word b e h h64 eb =
    rw (aligned s p word e, mask, shl_exact (w - (64 - p % 8)) (64 - p % 8) 64 (mod-lt b (pow_pos (w - (64 - p % 8)))) (omega arith), eb) (sym joined ∙ ap (bits_of s p) whole-w)
  where
    whole-w : (64 - p % 8) + (w - (64 - p % 8)) ≡ w
    whole-w = omega arith

    mask : 1 * 2 ^ (w - (64 - p % 8)) % 2 ^ 64 ≡ 2 ^ (w - (64 - p % 8))
    mask = rw one-mul (mod-eq_of_lt (pow-lt {i = w - (64 - p % 8)} {j = 64} (omega arith)))

    next : p + (64 - p % 8) ≡ 8 * (p / 8 + 8) + 0
    next = omega arith

    joined : bits_of s p ((64 - p % 8) + (w - (64 - p % 8))) ≡ bits_of s p (64 - p % 8) + get_or s (p / 8 + 8) 0 % 2 ^ (w - (64 - p % 8)) * 2 ^ (64 - p % 8)
    joined = rw (bits-split s p (64 - p % 8) (w - (64 - p % 8)), next, bits_inside s (p / 8 + 8) 0 (w - (64 - p % 8)) (omega arith), div-one) (ap (λ (x : ℕ). bits_of s p (64 - p % 8) + x) (mul_comm (2 ^ (64 - p % 8)) _))

-- these bits fit a word
pub across-fits : (s : List ℕ) (p w word b : ℕ) → word ≡ bits_of s (8 * (p / 8)) 64 → 64 - p % 8 < w → w ≤ 64 → b ≡ get_or s (p / 8 + 8) 0
    → word / 2 ^ (p % 8) + b % (1 * 2 ^ (w - (64 - p % 8)) % 2 ^ 64) * 2 ^ (64 - p % 8) % 2 ^ 64 < 2 ^ 64
across-fits s p w word b e h h64 eb = rw (across s p w word b e h h64 eb) (bits_below s p w 64 h64)
