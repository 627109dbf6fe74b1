-- Laws for `move_text` and `move_texts`: the texts of a table's rows are moved to another place, one after the other.
use Rattle.std.specs.Prelude.{◌≡◌, ℕ, suc, ◌+◌, ◌*◌, ◌<◌, ◌≤◌, ◌≢◌, List, length, refl}
use Rattle.std.proofs.Common.{sym, ◌∙◌, not-suc-le-zero, add-one, arith}
use Rattle.std.proofs.Math.Path.{ap}
use Rattle.vrf_bitio.specs.Pasted.{pasted}
use Rattle.vrf_bitio.proofs.Laws.Pasted.{pasted_length}
use Rattle.vrf_words.specs.Words.{word, part}
use Rattle.vrf_words.specs.Inner.Words.{set_word, Apart, below, above}
use Rattle.vrf_words.proofs.Laws.Words.{length_part, word-pasted-below, part-pasted-below, part-pasted-above, part-pasted-same, length-set_word, word-set_word-same, word-set_word-other}
use Rattle.vrf_words.proofs.Laws.Words.{part-set_word-below, part-set_word-above}
use Rattle.vrf_table.proofs.Laws.Chain.{by_equal}
use Rattle.vrf_store.specs.UpTo.{sum_below}
use Rattle.vrf_store.specs.Inner.Texts.{text_at, text_len, lens, SameTexts, TextMovable, move_text, Movable, TextsMoved}
use Rattle.vrf_store.proofs.Laws.Memory.UpTo.{sum_below-le}
use Rattle.vrf_store.proofs.Laws.Texts.Rows.{same-texts-len, within-own, same-texts-then, kept_word, same-texts-kept}

-- ---- what a write does not change

pub apart-inner : {a k b n : ℕ} (b' n' : ℕ) → b ≤ b' → b' + n' ≤ b + n → Apart a k b n → Apart a k b' n'
apart-inner b' n' h g (below p) = below (omega arith)
apart-inner b' n' h g (above p) = above (omega arith)

part-pasted-apart : (s t : List ℕ) (at a k : ℕ) → Apart a k at (length t) → at + length t ≤ length s → part (pasted s at t) a k ≡ part s a k
part-pasted-apart s t at a k (below p) = part-pasted-below s t at a k p
part-pasted-apart s t at a k (above p) = part-pasted-above s t at a k p

part-set_word-apart : (s : List ℕ) (i v a k : ℕ) → Apart a k (4 * i) 4 → 4 * i + 4 ≤ length s → part (set_word s i v) a k ≡ part s a k
part-set_word-apart s i v a k (below p) = part-set_word-below s i v a k p
part-set_word-apart s i v a k (above p) = part-set_word-above s i v a k p

-- ---- moving one text

module _ (m : List ℕ) (row from to used : ℕ) (w : TextMovable m row from to used) where
  abbrev t : List ℕ
  t = part m (from + word m (row + 3)) (word m (row + 4))

  abbrev pasted-t : List ℕ
  pasted-t = pasted m (to + used) t

  t-long : length t ≡ word m (row + 4)
  t-long = length_part m (from + word m (row + 3)) (word m (row + 4)) w.text

  t-fits : to + used + length t ≤ length m
  t-fits = omega (arith, t-long, w.space)

  pasted-long : length pasted-t ≡ length m
  pasted-long = pasted_length t m (to + used) t-fits

  word_fits : 4 * (row + 3) + 4 ≤ length pasted-t
  word_fits = omega (arith, pasted-long, w.row_fits)

  pub move_text-long : length (move_text m row from to used) ≡ length m
  unfolding move_text
  move_text-long = length-set_word pasted-t (row + 3) used word_fits ∙ pasted-long

  pub move_text-kept : (a k : ℕ) → Apart a k (4 * row) 24 → Apart a k (to + used) (word m (row + 4)) → part (move_text m row from to used) a k ≡ part m a k
  unfolding move_text
  move_text-kept a k p q =
      part-set_word-apart pasted-t (row + 3) used a k (apart-inner (4 * (row + 3)) 4 (omega arith) (omega arith) p) word_fits
      ∙ part-pasted-apart m t (to + used) a k (rw t-long q) t-fits

  pub move_text-other : (j : ℕ) → j < 6 → j ≢ 3 → word (move_text m row from to used) (row + j) ≡ word m (row + j)
  unfolding move_text
  move_text-other j h ne =
      word-set_word-other pasted-t (row + 3) used (row + j) word_fits (λ q. ne (omega (arith, q)))
      ∙ word-pasted-below m t (to + used) (row + j) (omega (arith, h, w.before)) t-fits

  pub move_text-at : word (move_text m row from to used) (row + 3) ≡ used
  unfolding move_text
  move_text-at = word-set_word-same pasted-t (row + 3) used word_fits (omega (arith, w.small))

  pub move_text-text : part (move_text m row from to used) (to + used) (word m (row + 4)) ≡ part m (from + word m (row + 3)) (word m (row + 4))
  unfolding move_text
  move_text-text =
      part-set_word-above pasted-t (row + 3) used (to + used) (word m (row + 4)) (omega (arith, w.before)) word_fits
      ∙ ap (part pasted-t (to + used)) (sym t-long) ∙ part-pasted-same m t (to + used) t-fits

-- ---- moving the texts of n rows

pub moved_none : (m : List ℕ) (i from to used : ℕ) → TextsMoved m m i 0 from to used used
unfolding sum_below
moved_none m i from to used = record {
  sum = omega arith;
  same_texts = record {
    others = λ e j h. absurd (not-suc-le-zero h);
    texts = λ e h. absurd (not-suc-le-zero h);
    within = λ e h. absurd (not-suc-le-zero h);
  };
  kept = λ a k p q. refl;
  long = refl;
}

-- ranges inside two halves that do not overlap
pub apart-both : {b n c : ℕ} (a k a' k' : ℕ) → b ≤ a → a + k ≤ b + n → c ≤ a' → a' + k' ≤ c + n → Apart b n c n → Apart a k a' k'
apart-both a k a' k' h g h' g' (below p) = below (omega arith)
apart-both a k a' k' h g h' g' (above p) = above (omega arith)

-- the texts of the first e rows are moved, and row e is next
module _ (m₀ m : List ℕ) (i n from to used size : ℕ) (w : Movable m₀ i n from to used size) (e end : ℕ) (h : e < n) (d : TextsMoved m₀ m i e from to used end) where
  abbrev row : ℕ
  row = i + 6 * e

  -- row e and its text are unchanged so far
  row-kept : (j : ℕ) → j < 6 → word m (row + j) ≡ word m₀ (row + j)
  row-kept j k =
      let p : i + 6 * e + 6 * 0 + j ≡ i + 6 * e + j = omega arith in
      rw p at (kept_word row 1 m₀ m (d.kept (4 * row) 24 (above (omega arith)) (below (omega (arith, w.rows_to)))) 0 j (omega arith) k)

  sum_more : end + text_len m₀ i e ≤ size
  unfolding sum_below
  sum_more = omega (arith, w.fits, d.sum, sum_below-le (text_len m₀ i) (suc e) n (omega arith))

  text-kept : part m (from + word m (row + 3)) (word m (row + 4)) ≡ part m₀ (from + text_at m₀ i e) (text_len m₀ i e)
  text-kept =
      rw (row-kept 3 (omega arith), row-kept 4 (omega arith))
      (d.kept (from + text_at m₀ i e) (text_len m₀ i e) (above (omega (arith, w.rows_from)))
      (apart-both _ _ _ _ (omega arith) (omega (arith, w.within e h)) (omega arith) (omega (arith, sum_more, d.sum)) w.halves))

  pub next-fitting : TextMovable m row from to end
  next-fitting =
      let three = row-kept 3 (omega arith) in
      let four = row-kept 4 (omega arith) in
      let text = w.within e h in
      record {
        row_fits = omega (arith, d.long, w.rows_from, w.old);
        before = omega (arith, w.rows_to);
        text = omega (arith, three, four, text, d.long, w.old);
        space = omega (arith, four, sum_more, d.long, w.new);
        apart = apart-both _ _ _ _ (omega arith) (omega (arith, three, four, text)) (omega arith) (omega (arith, four, sum_more)) w.halves;
        small = omega (arith, four, sum_more, w.small);
      }

  abbrev m' : List ℕ
  m' = move_text m row from to end

  next-kept : (a k : ℕ) → Apart a k (4 * row) 24 → Apart a k (to + end) (text_len m₀ i e) → part m' a k ≡ part m a k
  next-kept a k p q = move_text-kept m row from to end next-fitting a k p (rw (row-kept 4 (omega arith)) q)

  -- the rows before it keep their texts
  before-same-texts : SameTexts i e m₀ from m' to end
  before-same-texts =
      same-texts-then d.same_texts
      (same-texts-kept i e m m' (next-kept (4 * i) (24 * e) (below (omega arith)) (below (omega (arith, w.rows_to))))
      to end (next-kept to end (above (omega (arith, w.rows_to))) (below (omega arith)))
      (λ f k. omega (arith, d.same_texts.within f k, same-texts-len d.same_texts f k)))

  next-same-texts : SameTexts i (suc e) m₀ from m' to (end + text_len m₀ i e)
  next-same-texts = record {
    others = λ f j k l ne. by_equal f e
        (λ q. rw q (move_text-other m row from to end next-fitting j l ne ∙ row-kept j l))
        (λ q. before-same-texts.others f j (omega (arith, k, q)) l ne);
    texts = λ f k. by_equal f e
        (λ q. rw (q, move_text-at m row from to end next-fitting) (ap (part m' (to + end)) (sym (row-kept 4 (omega arith))) ∙ move_text-text m row from to end next-fitting ∙ text-kept))
        (λ q. before-same-texts.texts f (omega (arith, k, q)));
    within = λ f k. by_equal f e
        (λ q. rw (q, move_text-at m row from to end next-fitting) (omega arith))
        (λ q. omega (arith, before-same-texts.within f (omega (arith, k, q))));
  }

  next : TextsMoved m₀ m' i (suc e) from to used (end + text_len m₀ i e)
  unfolding sum_below
  next = record {
    sum = omega (arith, d.sum);
    same_texts = next-same-texts;
    kept = λ a k p q.
        next-kept a k (apart-inner (4 * row) 24 (omega arith) (omega arith) p) (apart-inner (to + end) (text_len m₀ i e) (omega (arith, d.sum)) (omega (arith, d.sum)) q)
        ∙ d.kept a k (apart-inner (4 * i) (24 * e) (omega arith) (omega arith) p) (apart-inner (to + used) (lens m₀ i e) (omega arith) (omega arith) q);
    long = move_text-long m row from to end next-fitting ∙ d.long;
  }

  pub moved-next : (m'' : List ℕ) (end' : ℕ) → m'' ≡ m' → end' ≡ end + word m (row + 4) → TextsMoved m₀ m'' i (e + 1) from to used end'
  moved-next m'' end' p q = rw (add-one, p, q, row-kept 4 (omega arith)) next

-- ---- moving the texts of another table

module _ {i n : ℕ} {m m₁ : List ℕ} {from f b : ℕ} (s : SameTexts i n m from m₁ f b) where
  -- that table and its texts do not overlap this one
  pub same-texts-past : {m₂ : List ℕ} {i' n' to used end : ℕ} → TextsMoved m₁ m₂ i' n' from to used end → Apart (4 * i) (24 * n) (4 * i') (24 * n') → 4 * i + 24 * n ≤ to → 4 * i' + 24 * n' ≤ f → Apart f b (to + used) (lens m₁ i' n') → SameTexts i n m from m₂ f b
  same-texts-past {m₂} d rows low high texts = same-texts-then s (same-texts-kept i n m₁ m₂ (d.kept (4 * i) (24 * n) rows (below (omega arith))) f b (d.kept f b (above high) texts) (within-own s))
