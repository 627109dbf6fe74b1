-- Laws about words and parts: their lengths, and what they read after a write. The proofs of `vrf_table`, `vrf_store` and the crates
-- above them use these laws instead of the definitions.
use Rattle.std.specs.Prelude.{◌≡◌, refl, ◌≢◌, List, ℕ, zero, suc, ◌+◌, ◌-◌, ◌*◌, ◌/◌, ◌%◌, ◌^◌, ◌<◌, ◌≤◌, min, length, drop, replicate}
use Rattle.std.proofs.Common.{sym, ap, ◌∙◌, arith, length-take, length-drop, get_or-take, get_or-drop, ext_get_or}
use Rattle.std.proofs.Math.Nat.{add-zero}
use Rattle.std.proofs.Math.Decide.{dec_lt}
use Rattle.std.proofs.Math.ListN.{get_or, get_or-eq_default}
use Rattle.std.proofs.Math.Seq.{take-length}
use Rattle.vrf_bitio.specs.Bits.{Bytes}
use Rattle.vrf_bitio.specs.Number.{low_bytes}
use Rattle.vrf_bitio.specs.Pasted.{pasted}
use Rattle.vrf_bitio.proofs.Laws.Pasted.{pasted_length, Outside, before, following, get_d-pasted-out, get_d-pasted-in}
use Rattle.vrf_bitio.proofs.Laws.Number.{low_bytes-length, digits}
use Rattle.vrf_words.specs.Words.{part, word}
use Rattle.vrf_words.specs.Inner.Words.{set_word, Apart, below, above}

-- ---- the length of a part and the bytes in it

long : (s : List ℕ) (a n : ℕ) → length (part s a n) ≡ min n (length s - a)
unfolding part
long s a n = rw (length-take, length-drop)

pub length_part : (s : List ℕ) (a n : ℕ) → a + n ≤ length s → length (part s a n) ≡ n
length_part s a n h = omega (arith, long s a n)

pub get_d_part : (s : List ℕ) (a n i : ℕ) → i < n → get_or (part s a n) i 0 ≡ get_or s (a + i) 0
unfolding part
get_d_part s a n i h = get_or-take n (drop a s) i 0 h ∙ get_or-drop a s i 0

-- a list with the length of a part and the same bytes is that part
is-part : (l s : List ℕ) (a n : ℕ) → length l ≡ min n (length s - a) → ((i : ℕ) → i < n → get_or l i 0 ≡ get_or s (a + i) 0) → l ≡ part s a n
is-part l s a n e f =
    ext_get_or 0 l (part s a n) (e ∙ sym (long s a n)) (λ i h. let lt : i < n = omega arith in f i lt ∙ sym (get_d_part s a n i lt))

pub whole_part : (s : List ℕ) → part s 0 (length s) ≡ s
unfolding part
whole_part s = take-length s

pub part-part : (s : List ℕ) (a n b k : ℕ) → b + k ≤ n → part (part s a n) b k ≡ part s (a + b) k
part-part s a n b k h =
    let e : length (part (part s a n) b k) ≡ min k (length s - (a + b)) = omega (arith, long (part s a n) b k, long s a n) in
    is-part (part (part s a n) b k) s (a + b) k e (λ i lt.
    let n' : a + (b + i) ≡ a + b + i = omega arith in
    get_d_part (part s a n) b k i lt ∙ get_d_part s a n (b + i) (omega arith) ∙ ap (λ (j : ℕ). get_or s j 0) n')

-- ---- a part after a write

-- where place i is relative to the n bytes written from `at` on
data Side (at n i : ℕ) : Type 0 where
  out : Outside at (at + n) i → Side at n i
  within : (k : ℕ) → k < n → i ≡ at + k → Side at n i

side : (at n i : ℕ) → Side at n i
side at n i = elim (dec_lt i at) [ yes h ↦ out (before h) | no h ↦ elim (dec_lt i (at + n)) [ yes g ↦ within (i - at) (omega arith) (omega arith) | no g ↦ out (following (omega arith)) ] ]

outside : {a n at m : ℕ} (i : ℕ) → Apart a n at m → i < n → Outside at (at + m) (a + i)
outside i (below h) lt = before (omega arith)
outside i (above h) lt = following (omega arith)

part-pasted-out : (s t : List ℕ) (at a n : ℕ) → Apart a n at (length t) → at + length t ≤ length s → part (pasted s at t) a n ≡ part s a n
part-pasted-out s t at a n h fits =
    let e : length (part (pasted s at t) a n) ≡ min n (length s - a) = long (pasted s at t) a n ∙ ap (λ (k : ℕ). min n (k - a)) (pasted_length t s at fits) in
    is-part (part (pasted s at t) a n) s a n e (λ i lt. get_d_part (pasted s at t) a n i lt ∙ get_d-pasted-out t s at (a + i) fits (outside i h lt))

pub part-pasted-below : (s t : List ℕ) (at a n : ℕ) → a + n ≤ at → at + length t ≤ length s → part (pasted s at t) a n ≡ part s a n
part-pasted-below s t at a n h = part-pasted-out s t at a n (below h)

pub part-pasted-above : (s t : List ℕ) (at a n : ℕ) → at + length t ≤ a → at + length t ≤ length s → part (pasted s at t) a n ≡ part s a n
part-pasted-above s t at a n h = part-pasted-out s t at a n (above h)

pub part-pasted-same : (s t : List ℕ) (at : ℕ) → at + length t ≤ length s → part (pasted s at t) at (length t) ≡ t
part-pasted-same s t at fits =
    let e : length t ≡ min (length t) (length (pasted s at t) - at) = omega (arith, pasted_length t s at fits) in
    sym (is-part t (pasted s at t) at (length t) e (λ i lt. sym (get_d-pasted-in t s at i fits lt)))

pub part-pasted-in : (s t : List ℕ) (a n k : ℕ) → k + length t ≤ n → a + n ≤ length s → part (pasted s (a + k) t) a n ≡ pasted (part s a n) k t
part-pasted-in s t a n k h fits = sym (is-part (pasted (part s a n) k t) (pasted s (a + k) t) a n e (λ i lt. at_place i lt (side k (length t) i)))
  where
    space : a + k + length t ≤ length s
    space = omega arith

    inner : k + length t ≤ length (part s a n)
    inner = omega (arith, length_part s a n fits)

    e : length (pasted (part s a n) k t) ≡ min n (length (pasted s (a + k) t) - a)
    e = omega (arith, length_part s a n fits, pasted_length t (part s a n) k inner, pasted_length t s (a + k) space)

    outer : (i : ℕ) → Outside k (k + length t) i → Outside (a + k) (a + k + length t) (a + i)
    outer i (before g) = before (omega arith)
    outer i (following g) = following (omega arith)

    at_place : (i : ℕ) → i < n → Side k (length t) i → get_or (pasted (part s a n) k t) i 0 ≡ get_or (pasted s (a + k) t) (a + i) 0
    at_place i lt (out g) =
        get_d-pasted-out t (part s a n) k i inner g ∙ get_d_part s a n i lt ∙ sym (get_d-pasted-out t s (a + k) (a + i) space (outer i g))
    at_place i lt (within j g p) =
        let p' : a + i ≡ a + k + j = omega arith in
        rw (p', p) (get_d-pasted-in t (part s a n) k j inner g ∙ sym (get_d-pasted-in t s (a + k) j space g))

-- writing back the bytes that are already there changes nothing
pub pasted-part-id : (s : List ℕ) (a n : ℕ) → a + n ≤ length s → pasted s a (part s a n) ≡ s
pasted-part-id s a n fits = ext_get_or 0 (pasted s a (part s a n)) s (pasted_length (part s a n) s a space) (λ i lt. at_place i (side a (length (part s a n)) i))
  where
    space : a + length (part s a n) ≤ length s
    space = omega (arith, length_part s a n fits)

    at_place : (i : ℕ) → Side a (length (part s a n)) i → get_or (pasted s a (part s a n)) i 0 ≡ get_or s i 0
    at_place i (out g) = get_d-pasted-out (part s a n) s a i space g
    at_place i (within j g p) = rw p (get_d-pasted-in (part s a n) s a j space g ∙ get_d_part s a n j (omega (arith, length_part s a n fits)))

-- ---- words

-- words with the same four bytes are equal
word-agrees : (s t : List ℕ) (i j : ℕ) → ((k : ℕ) → k < 4 → get_or s (4 * i + k) 0 ≡ get_or t (4 * j + k) 0) → word s i ≡ word t j
unfolding word
word-agrees s t i j f =
    let e0 : get_or s (4 * i) 0 ≡ get_or t (4 * j) 0 = simp add-zero at (f 0 (omega arith)) in
    rw (e0, f 1 (omega arith), f 2 (omega arith), f 3 (omega arith))

pub word-part : (s : List ℕ) (b n j : ℕ) → 4 * j + 4 ≤ n → word (part s (4 * b) n) j ≡ word s (b + j)
word-part s b n j h = word-agrees (part s (4 * b) n) s j (b + j) (λ k lt.
    let p : 4 * b + (4 * j + k) ≡ 4 * (b + j) + k = omega arith in
    get_d_part s (4 * b) n (4 * j + k) (omega arith) ∙ ap (λ (i : ℕ). get_or s i 0) p)

word-pasted-out : (s t : List ℕ) (at j : ℕ) → Apart (4 * j) 4 at (length t) → at + length t ≤ length s → word (pasted s at t) j ≡ word s j
word-pasted-out s t at j h fits = word-agrees (pasted s at t) s j j (λ k lt. get_d-pasted-out t s at (4 * j + k) fits (outside k h lt))

pub word-pasted-below : (s t : List ℕ) (at j : ℕ) → 4 * j + 4 ≤ at → at + length t ≤ length s → word (pasted s at t) j ≡ word s j
word-pasted-below s t at j h = word-pasted-out s t at j (below h)

pub word-pasted-above : (s t : List ℕ) (at j : ℕ) → at + length t ≤ 4 * j → at + length t ≤ length s → word (pasted s at t) j ≡ word s j
word-pasted-above s t at j h = word-pasted-out s t at j (above h)

-- ---- writing a word

module _ (s : List ℕ) (i v : ℕ) where
  -- a word has four bytes
  space : 4 * i + 4 ≤ length s → 4 * i + length (low_bytes 4 v) ≤ length s
  space h = rw (low_bytes-length 4 v) h

  pub length-set_word : 4 * i + 4 ≤ length s → length (set_word s i v) ≡ length s
  unfolding set_word
  length-set_word h = pasted_length (low_bytes 4 v) s (4 * i) (space h)

  pub word-set_word-same : 4 * i + 4 ≤ length s → v < 2 ^ 32 → word (set_word s i v) i ≡ v
  unfolding word set_word low_bytes
  word-set_word-same h small =
      let at0 : get_or (pasted s (4 * i) (low_bytes 4 v)) (4 * i) 0 ≡ v % 256 = simp add-zero at (get_d-pasted-in (low_bytes 4 v) s (4 * i) 0 (space h) (omega arith)) in
      rw (at0, get_d-pasted-in (low_bytes 4 v) s (4 * i) 1 (space h) (omega arith), get_d-pasted-in (low_bytes 4 v) s (4 * i) 2 (space h) (omega arith), get_d-pasted-in (low_bytes 4 v) s (4 * i) 3 (space h) (omega arith))
      (omega (arith, digits v small))

  pub word-set_word-other : (j : ℕ) → 4 * i + 4 ≤ length s → j ≢ i → word (set_word s i v) j ≡ word s j
  unfolding set_word
  word-set_word-other j h ne = word-pasted-out s (low_bytes 4 v) (4 * i) j apart (space h)
    where
      apart : Apart (4 * j) 4 (4 * i) (length (low_bytes 4 v))
      apart = rw (low_bytes-length 4 v) (elim (dec_lt j i) [ yes g ↦ below (omega arith) | no g ↦ above (omega arith) ])

  pub part-set_word-below : (a n : ℕ) → a + n ≤ 4 * i → 4 * i + 4 ≤ length s → part (set_word s i v) a n ≡ part s a n
  unfolding set_word
  part-set_word-below a n g h = part-pasted-below s (low_bytes 4 v) (4 * i) a n g (space h)

  pub part-set_word-above : (a n : ℕ) → 4 * i + 4 ≤ a → 4 * i + 4 ≤ length s → part (set_word s i v) a n ≡ part s a n
  unfolding set_word
  part-set_word-above a n g h = part-pasted-above s (low_bytes 4 v) (4 * i) a n (rw (low_bytes-length 4 v) g) (space h)

pub part-set_word-in : (s : List ℕ) (b n j v : ℕ) → 4 * j + 4 ≤ n → 4 * b + n ≤ length s → part (set_word s (b + j) v) (4 * b) n ≡ set_word (part s (4 * b) n) j v
unfolding set_word
part-set_word-in s b n j v h fits =
    let p : 4 * (b + j) ≡ 4 * b + 4 * j = omega arith in
    rw p (part-pasted-in s (low_bytes 4 v) (4 * b) n (4 * j) (rw (low_bytes-length 4 v) h) fits)

-- ---- bytes stay below 256, and a word below 2 ^ 32

pub bytes-part : (s : List ℕ) (a n : ℕ) → Bytes s → Bytes (part s a n)
bytes-part s a n b i = elim (dec_lt i n) [ yes h ↦ rw (get_d_part s a n i h) (b (a + i)) | no h ↦ rw (get_or-eq_default (part s a n) 0 {n = i} (omega (arith, long s a n))) (omega arith) ]

pub bytes-pasted : (s t : List ℕ) (at : ℕ) → Bytes s → Bytes t → at + length t ≤ length s → Bytes (pasted s at t)
bytes-pasted s t at bs bt fits i = at_place (side at (length t) i)
  where
    at_place : Side at (length t) i → get_or (pasted s at t) i 0 < 256
    at_place (out g) = rw (get_d-pasted-out t s at i fits g) (bs i)
    at_place (within j g p) = rw (p, get_d-pasted-in t s at j fits g) (bt j)

bytes_low : (k v : ℕ) → Bytes (low_bytes k v)
unfolding low_bytes
bytes_low zero v i = omega arith
bytes_low (suc k) v zero = omega arith
bytes_low (suc k) v (suc i) = bytes_low k (v / 256) i

pub bytes-set_word : (s : List ℕ) (i v : ℕ) → Bytes s → 4 * i + 4 ≤ length s → Bytes (set_word s i v)
unfolding set_word
bytes-set_word s i v b h = bytes-pasted s (low_bytes 4 v) (4 * i) b (bytes_low 4 v) (space s i v h)

pub word_bound : (s : List ℕ) (i : ℕ) → Bytes s → word s i < 2 ^ 32
unfolding word
word_bound s i b = omega (arith, b (4 * i), b (4 * i + 1), b (4 * i + 2), b (4 * i + 3))

-- ---- zeros

zero-at : (n i : ℕ) → get_or {A = ℕ} (replicate n 0) i 0 ≡ 0
zero-at zero i = refl
zero-at (suc n) zero = refl
zero-at (suc n) (suc i) = zero-at n i

pub word-zeros : (n j : ℕ) → word (replicate n 0) j ≡ 0
unfolding word
word-zeros n j = rw (zero-at n (4 * j), zero-at n (4 * j + 1), zero-at n (4 * j + 2), zero-at n (4 * j + 3))

-- a word inside the bytes just written
pub word-pasted-in : (s t : List ℕ) (b k : ℕ) → 4 * k + 4 ≤ length t → 4 * b + length t ≤ length s → word (pasted s (4 * b) t) (b + k) ≡ word t k
word-pasted-in s t b k h fits =
    sym (word-part (pasted s (4 * b) t) b (length t) k h) ∙ ap (λ (l : List ℕ). word l k) (part-pasted-same s t (4 * b) fits)
