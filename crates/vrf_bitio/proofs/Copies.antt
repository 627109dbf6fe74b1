-- The functions that write: `put_word`, `put_bytes`, byte by byte, and `copy_bits`, word by word.
use Rattle.std.specs.Prelude.{◌≡◌, refl, List, [], ◌∷◌, ◌++◌, ℕ, zero, suc, ◌+◌, ◌-◌, ◌*◌, ◌/◌, ◌%◌, ◌^◌, ◌<◌, ◌≤◌, min, length, set}
use Rattle.std.proofs.Common.{sym, ap, ◌∙◌, arith, zero-add, add-zero, suc-add, mod-eq_of_lt, length-set}
use native.Mathlib.Nat.{mul-zero, sub-zero, lt_of_lt_of_le, div-eq_of_lt}
use lib.Pow.{pow_mono}
use Rattle.vrf_bitio.specs.Bits.{bits_of, bytes_of, packed_bits, bytes_for}
use Rattle.vrf_bitio.specs.Number.{low_bytes}
use Rattle.vrf_bitio.specs.Pasted.{pasted}
use Rattle.vrf_bitio.proofs.Laws.Cases.{by_order}
use Rattle.vrf_bitio.proofs.Laws.Bits.{bits-lt, bits-low, bits-high}
use Rattle.vrf_bitio.proofs.Laws.Pasted.{pasted-nil, pasted-cons, pasted-append}
use Rattle.vrf_bitio.proofs.Laws.Window.{bytes-length}
use Rattle.vrf_bitio.proofs.Words.{no_bits, cut, join}

-- `to_le_bytes`, which `put_word` writes
pub word_bytes : (v : ℕ)
    → v % 256 ∷ v / 256 % 256 ∷ v / 65536 % 256 ∷ v / 16777216 % 256 ∷ v / 4294967296 % 256 ∷ v / 1099511627776 % 256 ∷ v / 281474976710656 % 256 ∷ v / 72057594037927936 % 256 ∷ [] ≡ low_bytes 8 v
unfolding low_bytes
word_bytes v =
    let e₂ : v / 65536 ≡ v / 256 / 256 = omega arith in
    let e₃ : v / 16777216 ≡ v / 256 / 256 / 256 = omega arith in
    let e₄ : v / 4294967296 ≡ v / 256 / 256 / 256 / 256 = omega arith in
    let e₅ : v / 1099511627776 ≡ v / 256 / 256 / 256 / 256 / 256 = omega arith in
    let e₆ : v / 281474976710656 ≡ v / 256 / 256 / 256 / 256 / 256 / 256 = omega arith in
    let e₇ : v / 72057594037927936 ≡ v / 256 / 256 / 256 / 256 / 256 / 256 / 256 = omega arith in
    rw (e₂, e₃, e₄, e₅, e₆, e₇)

-- `put_bytes` after k of t bytes: l is the list at the start, m the list now, left the number still to be written
pub record Putting (l m : List ℕ) (at v t k left : ℕ) : Type 0 where
  pub long : length m ≡ length l
  pub same : pasted m (at + k) (low_bytes (t - k) left) ≡ pasted l at (low_bytes t v)

pub put-start : (l : List ℕ) (at v t : ℕ) → Putting l l at v t 0 v
put-start l at v t =
    let e : at + 0 ≡ at = omega arith in
    let n : t - 0 ≡ t = omega arith in
    record { long = refl; same = rw (e, n) }

module _ (l m : List ℕ) (at v t k left : ℕ) (i : Putting l m at v t k left) where
  pub put_step : k < t → at + t ≤ length l → Putting l (set m (at + k) (left % 256)) at v t (k + 1) (left / 256)
  unfolding low_bytes
  put_step h fits =
      let inside : at + k < length m = omega (arith, i.long) in
      let one : t - k ≡ suc (t - (k + 1)) = omega arith in
      let next : at + (k + 1) ≡ at + k + 1 = omega arith in
      record {
        long = length-set m (at + k) (left % 256) ∙ i.long;
        same = rw next (sym (pasted-cons m (at + k) (left % 256) (low_bytes (t - (k + 1)) (left / 256)) inside) ∙ rw one at i.same);
      }

  pub put-end : t ≤ k → m ≡ pasted l at (low_bytes t v)
  unfolding low_bytes
  put-end h =
      let none : t - k ≡ 0 = omega arith in
      sym (pasted-nil m (at + k)) ∙ rw none at i.same

-- the bytes of a run of bits are the low bytes of its number
bytes_low : (s : List ℕ) (p k : ℕ) → bytes_of s p k ≡ low_bytes k (bits_of s p (8 * k))
unfolding bytes_of low_bytes
bytes_low s p zero = refl
bytes_low s p (suc k) =
    let e : 8 * suc k ≡ 8 + 8 * k = omega arith in
    rw (e, bits-low s p 8 (8 * k), bits-high s p 8 (8 * k), bytes_low s (p + 8) k)

bytes-append : (s : List ℕ) (p a b : ℕ) → bytes_of s p (a + b) ≡ bytes_of s p a ++ bytes_of s (p + 8 * a) b
unfolding bytes_of
bytes-append s p zero b = rw (zero-add, mul-zero, add-zero)
bytes-append s p (suc a) b =
    let e : p + 8 + 8 * a ≡ p + 8 * suc a = omega arith in
    rw (suc-add a b, bytes-append s (p + 8) a b, e)

-- packed bits are whole bytes, followed by the packed rest
packed-split : (s : List ℕ) (p n a b : ℕ) → 8 * a ≤ n → packed_bits s p n (a + b) ≡ bytes_of s p a ++ packed_bits s (p + 8 * a) (n - 8 * a) b
unfolding packed_bits bytes_of
packed-split s p n zero b h = rw (zero-add, mul-zero, add-zero, sub-zero)
packed-split s p n (suc a) b h =
    let e : p + 8 + 8 * a ≡ p + 8 * suc a = omega arith in
    let n8 : n - 8 - 8 * a ≡ n - 8 * suc a = omega arith in
    let full : min 8 n ≡ 8 = omega arith in
    let h' : 8 * a ≤ n - 8 = omega arith in
    rw (suc-add a b, full, packed-split s (p + 8) (n - 8) a b h', e, n8)

-- the first byte of a copy and the bytes after it: if that byte has fewer than eight bits, and if it is whole
module _ (s : List ℕ) (q k m : ℕ) (ih : packed_bits s (q + 8) (m - 8) k ≡ low_bytes k (bits_of s (q + 8) (m - 8))) where
  last_byte : m < 8 → bits_of s q (min 8 m) ∷ packed_bits s (q + 8) (m - 8) k ≡ bits_of s q m % 256 ∷ low_bytes k (bits_of s q m / 256)
  last_byte few =
      let all : min 8 m ≡ m = omega arith in
      let none : m - 8 ≡ 0 = omega arith in
      let small : bits_of s q m < 256 = lt_of_lt_of_le (bits-lt s q m) (pow_mono {i = m} {j = 8} (omega arith)) in
      rw (all, mod-eq_of_lt small, div-eq_of_lt small, ih, none) (ap (λ (x : ℕ). bits_of s q m ∷ low_bytes k x) (no_bits s (q + 8)))

  whole-byte : 8 ≤ m → bits_of s q (min 8 m) ∷ packed_bits s (q + 8) (m - 8) k ≡ bits_of s q m % 256 ∷ low_bytes k (bits_of s q m / 256)
  whole-byte many =
      let full : min 8 m ≡ 8 = omega arith in
      let back : m ≡ 8 + (m - 8) = omega arith in
      let high : bits_of s q m / 256 ≡ bits_of s (q + 8) (m - 8) = ap (λ (w : ℕ). bits_of s q w / 256) back ∙ bits-high s q 8 (m - 8) in
      let low : bits_of s q m % 256 ≡ bits_of s q 8 = ap (λ (w : ℕ). bits_of s q w % 256) back ∙ bits-low s q 8 (m - 8) in
      rw (full, high, low, ih)

-- at most 8 * k bits, packed into k bytes, are the low k bytes of their number
packed-low : (s : List ℕ) (q k m : ℕ) → m ≤ 8 * k → packed_bits s q m k ≡ low_bytes k (bits_of s q m)
unfolding packed_bits low_bytes
packed-low s q zero m h = refl
packed-low s q (suc k) m h =
    let ih = packed-low s (q + 8) k (m - 8) (omega arith) in
    by_order 8 m (whole-byte s q k m ih) (last_byte s q k m ih)

-- `copy_bits` after k words: d is the target at the start, m the target now, carry the word that is loaded next
pub record Copying (s d m : List ℕ) (p carry k : ℕ) : Type 0 where
  pub same : m ≡ pasted d 0 (bytes_of s p (8 * k))
  pub held : carry ≡ bits_of s (8 * (p / 8 + 8 * k)) 64

pub copy_start : (s d : List ℕ) (p carry : ℕ) → carry ≡ bits_of s (8 * (p / 8)) 64 → Copying s d d p carry 0
unfolding bytes_of
copy_start s d p carry e =
    let here : p / 8 + 0 ≡ p / 8 = omega arith in
    record { same = sym (pasted-nil d 0); held = rw here e }

module _ (s d m : List ℕ) (p carry k : ℕ) (c : Copying s d m p carry k) where
  -- after the loop: writing the last n % 64 bits, w, completes the copy
  pub copy-end : (n w : ℕ) → n / 64 ≡ k → bytes_for n ≤ length d → w ≡ bits_of s (p + 64 * k) (n % 64)
      → pasted m (8 * (n / 64)) (low_bytes ((n % 64 + 7) / 8) w) ≡ pasted d 0 (packed_bits s p n (bytes_for n))
  copy-end n w at-end fits e =
      let at : 8 * k ≡ 0 + length (bytes_of s p (8 * k)) = rw bytes-length (omega arith) in
      let space : 8 * k ≤ length d = omega arith in
      let count : bytes_for n ≡ 8 * k + (n % 64 + 7) / 8 = omega arith in
      let left : n - 8 * (8 * k) ≡ n % 64 = omega arith in
      let bit : p + 8 * (8 * k) ≡ p + 64 * k = omega arith in
      rw (at-end, c.same) (pasted-append (bytes_of s p (8 * k)) (low_bytes ((n % 64 + 7) / 8) w) d 0 (8 * k) at space
      ∙ ap (pasted d 0) (rw (count, packed-split s p n (8 * k) ((n % 64 + 7) / 8) (omega arith), left, bit, packed-low s (p + 64 * k) ((n % 64 + 7) / 8) (n % 64) (omega arith), e)))

  -- after the loop, if no bits are left
  pub copy-whole : (n : ℕ) → n / 64 ≡ k → bytes_for n ≤ length d → n % 64 ≤ 0 → m ≡ pasted d 0 (packed_bits s p n (bytes_for n))
  unfolding low_bytes
  copy-whole n at-end fits h =
      let none : n % 64 ≡ 0 = omega arith in
      let no_bytes : (n % 64 + 7) / 8 ≡ 0 = omega arith in
      sym (pasted-nil m (8 * (n / 64))) ∙ rw no_bytes at (copy-end n 0 at-end fits (rw none (sym (no_bits s (p + 64 * k)))))

  -- the carried word and the word after it
  module _ (next w : ℕ) (en : next ≡ bits_of s (8 * (p / 8 + 8 * k + 8)) 64) (ew : w ≡ carry / 2 ^ (p % 8) + next % 2 ^ (p % 8) * 2 ^ (64 - p % 8)) where
    word : w ≡ bits_of s (p + 64 * k) 64
    word =
        let following : 8 * (p / 8 + 8 * k + 8) ≡ 8 * (p / 8 + 8 * k) + 64 = omega arith in
        let here : 8 * (p / 8 + 8 * k) + p % 8 ≡ p + 64 * k = omega arith in
        ew ∙ join s (8 * (p / 8 + 8 * k)) (p % 8) carry next (omega arith) c.held (rw following at en) ∙ ap (λ (q : ℕ). bits_of s q 64) here

    -- one turn of the loop
    pub copy_step : (m' : List ℕ) → m' ≡ pasted m (8 * k) (low_bytes 8 w) → 8 * k ≤ length d → Copying s d m' p next (k + 1)
    copy_step m' e space =
        let bytes : low_bytes 8 w ≡ bytes_of s (p + 64 * k) 8 = ap (low_bytes 8) word ∙ sym (bytes_low s (p + 64 * k) 8) in
        let at : 8 * k ≡ 0 + length (bytes_of s p (8 * k)) = rw bytes-length (omega arith) in
        let on : 8 * (k + 1) ≡ 8 * k + 8 = omega arith in
        let bit : 64 * k ≡ 8 * (8 * k) = omega arith in
        let place : p / 8 + 8 * k + 8 ≡ p / 8 + 8 * (k + 1) = omega arith in
        record {
          same = e ∙ rw (c.same, bytes) (pasted-append (bytes_of s p (8 * k)) (bytes_of s (p + 64 * k) 8) d 0 (8 * k) at space ∙ ap (pasted d 0) (rw (on, bytes-append s p (8 * k) 8, bit)));
          held = rw place at en;
        }

    -- the bits of the last, partial word
    pub last_word : (n v : ℕ) → v ≡ w % 2 ^ (n % 64) → v ≡ bits_of s (p + 64 * k) (n % 64)
    last_word n v e = e ∙ cut s (p + 64 * k) (n % 64) w (omega arith) word
