-- Laws for the functions of this crate: a part of a slice that is read or written is a part of the memory.
use Rattle.std.specs.Prelude.{◌≡◌, List, [], ◌∷◌, ◌++◌, ℕ, ◌+◌, ◌-◌, ◌*◌, ◌/◌, ◌%◌, ◌^◌, ◌<◌, ◌≤◌, length, take, drop}
use Rattle.std.proofs.Common.{refl, ap, ◌∙◌, arith, zero-add, append_assoc, get_or-take, get_or-drop}
use Rattle.std.proofs.lemmas.List.{take-append-le, drop-append-le}
use Rattle.std.proofs.Math.ListN.{get_or}
use Rattle.std.proofs.Math.Seq.{drop-drop, take-append_seam, drop-append-add}
use borrow.Rule.Slice.PartMut.{put_mid}
use Rattle.vrf_bitio.specs.Number.{low_bytes}
use Rattle.vrf_bitio.specs.Pasted.{pasted}
use Rattle.vrf_bitio.proofs.Laws.Pasted.{pasted-front}
use Rattle.vrf_words.specs.Words.{part, word}
use Rattle.vrf_words.proofs.Laws.Words.{part-part}

-- Word w, which is i + j, of s: the bytes from 4 j on of x, which is `s[4 * i..4 * i + n]`.
module _ (s : List ℕ) (i n j : ℕ) {x : List ℕ} (e : x ≡ take (4 * i + n - 4 * i) (drop (4 * i) s)) where
  byte : (k to : ℕ) → k < n → to ≡ 4 * i + k → get_or x k 0 ≡ get_or s to 0
  byte k to h p =
      rw (e, p) (get_or-take (4 * i + n - 4 * i) (drop (4 * i) s) k 0 (omega arith) ∙ get_or-drop (4 * i) s k 0)

  pub word_of : (w : ℕ) → w ≡ i + j → 4 * j + 4 ≤ n
      → get_or x (4 * j) 0 + get_or x (4 * j + 1) 0 * 256 + get_or x (4 * j + 2) 0 * 65536 + get_or x (4 * j + 3) 0 * 16777216 ≡ word s w
  unfolding word
  word_of w p h =
      omega (arith, byte (4 * j) (4 * w) (omega arith) (omega arith), byte (4 * j + 1) (4 * w + 1) (omega arith) (omega arith), byte (4 * j + 2) (4 * w + 2) (omega arith) (omega arith), byte (4 * j + 3) (4 * w + 3) (omega arith) (omega arith))

-- the eight low bytes of v are those of its halves
pub low_bytes_8 : (v : ℕ)
    → v % 256 ∷ v / 256 % 256 ∷ v / 65536 % 256 ∷ v / 16777216 % 256 ∷ v / 4294967296 % 256 ∷ v / 1099511627776 % 256 ∷ v / 281474976710656 % 256 ∷ v / 72057594037927936 % 256 ∷ []
    ≡ low_bytes 4 (v % 2 ^ 32) ++ low_bytes 4 (v / 2 ^ 32)
unfolding low_bytes
low_bytes_8 v =
    let lo = v % 2 ^ 32 in
    let hi = v / 2 ^ 32 in
    let e₀ : lo % 256 ≡ v % 256 = omega arith in
    let e₁ : lo / 256 % 256 ≡ v / 256 % 256 = omega arith in
    let e₂ : lo / 256 / 256 % 256 ≡ v / 65536 % 256 = omega arith in
    let e₃ : lo / 256 / 256 / 256 % 256 ≡ v / 16777216 % 256 = omega arith in
    let e₅ : v / 1099511627776 ≡ hi / 256 = omega arith in
    let e₆ : v / 281474976710656 ≡ hi / 256 / 256 = omega arith in
    let e₇ : v / 72057594037927936 ≡ hi / 256 / 256 / 256 = omega arith in
    rw (e₀, e₁, e₂, e₃, e₅, e₆, e₇)

-- l after `v` was written over its part of k bytes from place a on
pub put_mid-pasted : (l v : List ℕ) (a k : ℕ) {x : List ℕ} → x ≡ v → length v ≡ k → put_mid a k l x ≡ pasted l a v
unfolding pasted
put_mid-pasted l v a k e size = rw (e, drop-drop k a l, size)

-- v written into the front or the back of a list that was split in two
pub pasted-in_front : (l r v : List ℕ) (at : ℕ) → at + length v ≤ length l → pasted l at v ++ r ≡ pasted (l ++ r) at v
unfolding pasted
pasted-in_front l r v at h =
    let low : at ≤ length l = omega arith in
    rw (append_assoc, append_assoc, take-append-le at l r low, drop-append-le (at + length v) l r h)

pub pasted-in_back : (l r v : List ℕ) (at n : ℕ) → length l ≡ at → length v ≡ n → l ++ (v ++ drop n r) ≡ pasted (l ++ r) at v
unfolding pasted
pasted-in_back l r v at n e size = rw (← e, ← size, take-append_seam, drop-append-add)

-- the same, where v was written over the first elements of the back
pub pasted-to_back : (l r v : List ℕ) (at : ℕ) → length l ≡ at → l ++ pasted r 0 v ≡ pasted (l ++ r) at v
pasted-to_back l r v at e = ap (λ (x : List ℕ). l ++ x) (pasted-front r v) ∙ pasted-in_back l r v at (length v) e refl

-- n bytes of the front of s, up to place e
pub part-of_front : (s : List ℕ) (e a n : ℕ) → a + n ≤ e → take (a + n - a) (drop a (take e s)) ≡ part s a n
unfolding part
part-of_front s e a n h =
    let count : a + n - a ≡ n = omega arith in
    rw count (part-part s 0 e a n h ∙ ap (λ (k : ℕ). part s k n) (zero-add a))
