-- Laws about the memory of an index, its links and the heads after them, when an entry is put at the front of a chain.
use Rattle.std.specs.Prelude.{◌≡◌, ℕ, ◌+◌, ◌*◌, ◌<◌, ◌≤◌, List, ◌++◌, length, take, drop}
use Rattle.std.proofs.Math.Path.{refl, sym, ap}
use Rattle.std.proofs.Common.{◌∙◌, length-drop, drop-drop, take_all}
use Rattle.std.proofs.Math.Option.{none, some}
use native.Mathlib.Omega.{arith}
use Rattle.std.proofs.Math.Seq.{take-add}
use Rattle.vrf_bitio.specs.Pasted.{pasted}
use Rattle.vrf_bitio.proofs.Laws.Pasted.{pasted-append}
use Rattle.vrf_words.specs.Words.{word, part}
use Rattle.vrf_words.specs.Inner.Words.{set_word}
use Rattle.vrf_words.proofs.Laws.Words.{length_part, pasted-part-id, word-part, length-set_word, part-set_word-below, part-set_word-above, part-set_word-in}
use Rattle.vrf_store.specs.Store.{words}
use Rattle.vrf_store.specs.Inner.Groups.{linked, headed}
use Rattle.vrf_store.proofs.Laws.Memory.Tables.{front, back}

-- ---- a memory that differs in one range only

-- m' is m except for the n bytes from a on
record ChangedWithin (m m' : List ℕ) (a n : ℕ) : Type 0 where
  below : part m' 0 a ≡ part m 0 a
  above : part m' (a + n) (length m) ≡ part m (a + n) (length m)
  long : length m' ≡ length m

rest_part : (m : List ℕ) (a n : ℕ) → length m ≤ n → part m a n ≡ drop a m
unfolding part
rest_part m a n h = take_all n (drop a m) (omega (arith, length-drop a m, h))

within-pasted : {m m' : List ℕ} {a n : ℕ} → ChangedWithin m m' a n → a + n ≤ length m → m' ≡ pasted m a (part m' a n)
unfolding pasted part
within-pasted {m} {m'} {a} {n} w fits =
    let low : take a m' ≡ take a m = w.below in
    let long : length (take n (drop a m')) ≡ n = length_part m' a n (omega (arith, w.long, fits)) in
    let high : drop (a + n) m' ≡ drop (a + n) m = sym (rest_part m' (a + n) (length m) (omega (arith, w.long))) ∙ w.above ∙ rest_part m (a + n) (length m) (omega arith) in
    let e = sym (pasted-part-id m' a n (omega (arith, w.long, fits))) in
    e ∙ rw (low, long, high)

-- writing a word of that range
within_word : {m m' : List ℕ} {n : ℕ} (b i v : ℕ) → ChangedWithin m m' (4 * b) n → 4 * i + 4 ≤ n → 4 * b + n ≤ length m → ChangedWithin m (set_word m' (b + i) v) (4 * b) n
within_word {m} {m'} {n} b i v w h fits =
    let inside : 4 * (b + i) + 4 ≤ length m' = omega (arith, h, fits, w.long) in
    record {
      below = part-set_word-below m' (b + i) v 0 (4 * b) (omega arith) inside ∙ w.below;
      above = part-set_word-above m' (b + i) v (4 * b + n) (length m) (omega (arith, h)) inside ∙ w.above;
      long = length-set_word m' (b + i) v inside ∙ w.long;
    }

-- ---- the links and the heads of an index

module _ (m : List ℕ) (at n k : ℕ) (fits : 4 * at + 4 * n + 4 * k ≤ length m) where
  abbrev links : List ℕ
  links = words m at n

  abbrev heads : List ℕ
  heads = words m (at + n) k

  abbrev both : ℕ
  both = 4 * n + 4 * k

  links-long : length links ≡ 4 * n
  unfolding words
  links-long = length_part m (4 * at) (4 * n) (omega (arith, fits))

  halves : part m (4 * at) both ≡ links ++ heads
  unfolding words part
  halves =
      let to : 4 * at + 4 * n ≡ 4 * (at + n) = omega arith in
      take-add (4 * n) (4 * k) (drop (4 * at) m) ∙ rw (drop-drop (4 * n) (4 * at) m, to)

  untouched : ChangedWithin m m (4 * at) both
  untouched = record { below = refl; above = refl; long = refl }

  -- the memory after the heads are written
  pub heads-written : (z : List ℕ) → pasted m (4 * (at + n)) z ≡ pasted m (4 * at) (links ++ z)
  unfolding words
  heads-written z =
      let same = pasted-part-id m (4 * at) (4 * n) (omega (arith, fits)) in
      ap (λ (y : List ℕ). pasted y (4 * (at + n)) z) (sym same) ∙ pasted-append links z m (4 * at) (4 * (at + n)) (omega (arith, links-long)) (omega (arith, fits))

  -- the memory after one word of the links is written
  pub word-written : (i : ℕ) → i < n → (v : ℕ) → set_word m (at + i) v ≡ pasted m (4 * at) (set_word links i v ++ heads)
  word-written i low v =
      let inside : 4 * i + 4 ≤ both = omega (arith, low) in
      let space : 4 * at + both ≤ length m = omega (arith, fits) in
      within-pasted (within_word at i v untouched inside space) space
      ∙ ap (pasted m (4 * at)) (part-set_word-in m at both i v inside space ∙ rw halves (front links heads i v (omega (arith, low, links-long))))

  module _ (i : ℕ) (low : i < n) (h : ℕ) (one : h < k) (p : ℕ) where
    abbrev m₁ : List ℕ
    m₁ = set_word m (at + i) (word m (at + n + h))

    entry-words : part (set_word m₁ (at + (n + h)) p) (4 * at) both ≡ set_word links i (word heads h) ++ set_word heads h p
    unfolding words
    entry-words =
        let space : 4 * at + both ≤ length m = omega (arith, fits) in
        let space₁ : 4 * at + both ≤ length m₁ = omega (arith, space, length-set_word m (at + i) (word m (at + n + h)) (omega (arith, space, low))) in
        let fits-i : 4 * i + 4 ≤ length links = omega (arith, low, links-long) in
        let long : length (set_word links i (word heads h)) ≡ 4 * n = length-set_word links i (word heads h) fits-i ∙ links-long in
        part-set_word-in m₁ at both (n + h) p (omega (arith, one)) space₁
        ∙ ap (λ (z : List ℕ). set_word z (n + h) p) (part-set_word-in m at both i (word m (at + n + h)) (omega (arith, low)) space ∙ rw (halves, sym (word-part m (at + n) (4 * k) h (omega (arith, one)))) (front links heads i (word heads h) fits-i))
        ∙ back (set_word links i (word heads h)) heads n (n + h) h p long refl

    pub entry-written : set_word m₁ (at + n + h) p ≡ pasted m (4 * at) (linked links heads i (some h) ++ headed heads p (some h))
    unfolding linked headed
    entry-written =
        let next : at + n + h ≡ at + (n + h) = omega arith in
        let w = within_word at (n + h) p (within_word at i (word m (at + n + h)) untouched (omega (arith, low)) (omega (arith, fits))) (omega (arith, one)) (omega (arith, fits)) in
        ap (λ (z : ℕ). set_word m₁ z p) next ∙ within-pasted w (omega (arith, fits)) ∙ ap (pasted m (4 * at)) entry-words

  pub entry_absent : (i p : ℕ) → m ≡ pasted m (4 * at) (linked links heads i none ++ headed heads p none)
  unfolding linked headed
  entry_absent i p = within-pasted untouched (omega (arith, fits)) ∙ ap (pasted m (4 * at)) halves
