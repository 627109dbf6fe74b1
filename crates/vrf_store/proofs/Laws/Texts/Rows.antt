-- Laws about rows as words of the memory: two memories have the same texts, except for where they are.
use Rattle.std.specs.Prelude.{◌≡◌, ℕ, ◌+◌, ◌*◌, ◌<◌, ◌≤◌, ◌≢◌, List, refl}
use Rattle.std.proofs.Common.{sym, ◌∙◌}
use Rattle.std.proofs.Math.Nat.{add-zero}
use native.Mathlib.Omega.{arith}
use Rattle.vrf_words.specs.Words.{word, part}
use Rattle.vrf_words.proofs.Laws.Words.{part-part, word-part}
use Rattle.vrf_table.specs.Table.{key, link, at, len, info, text}
use Rattle.vrf_store.specs.UpTo.{sum_below}
use Rattle.vrf_store.specs.Store.{words}
use Rattle.vrf_store.specs.Inner.Valid.{ValidTable}
use Rattle.vrf_store.specs.Inner.Texts.{text_at, text_len, lens, SameTexts}
use Rattle.vrf_store.proofs.Laws.Memory.UpTo.{sum_below-ext}
use Rattle.vrf_store.proofs.Laws.Texts.Same.{SameBook}

-- ---- rows of six words, from word i of a memory on

module _ {i n : ℕ} {m m' : List ℕ} {from to used : ℕ} (s : SameTexts i n m from m' to used) where
  pub same-texts-len : (e : ℕ) → e < n → text_len m' i e ≡ text_len m i e
  same-texts-len e h = s.others e 4 h (omega arith) (omega arith)

  pub same-texts-lens : lens m' i n ≡ lens m i n
  same-texts-lens = sum_below-ext _ _ n same-texts-len

  pub within-own : (e : ℕ) → e < n → text_at m' i e + text_len m' i e ≤ used
  within-own e h = omega (arith, s.within e h, same-texts-len e h)

  pub same-texts-then : {m'' : List ℕ} {there bound : ℕ} → SameTexts i n m' to m'' there bound → SameTexts i n m from m'' there bound
  same-texts-then {m''} {there} s' = record {
    others = λ e j h k ne. s'.others e j h k ne ∙ s.others e j h k ne;
    texts = λ e h. rw (same-texts-len e h) at (s'.texts e h) ∙ s.texts e h;
    within = λ e h. omega (arith, s'.within e h, same-texts-len e h);
  }

pub same-texts-more : {i n : ℕ} {m m' : List ℕ} {from to used more : ℕ} → used ≤ more → SameTexts i n m from m' to used → SameTexts i n m from m' to more
same-texts-more h s = record { others = s.others; texts = s.texts; within = λ e k. omega (arith, s.within e k) }

-- the words of rows that are unchanged
module _ (i n : ℕ) (m m' : List ℕ) (rows : part m' (4 * i) (24 * n) ≡ part m (4 * i) (24 * n)) where
  pub kept_word : (e j : ℕ) → e < n → j < 6 → word m' (i + 6 * e + j) ≡ word m (i + 6 * e + j)
  kept_word e j h k =
      let p : i + 6 * e + j ≡ i + (6 * e + j) = omega arith in
      rw (p, ← word-part m' i (24 * n) (6 * e + j) (omega (arith, h, k)), rows) (word-part m i (24 * n) (6 * e + j) (omega (arith, h, k)))

  -- and their texts
  pub same-texts-kept : (from used : ℕ) → part m' from used ≡ part m from used → ((e : ℕ) → e < n → text_at m i e + text_len m i e ≤ used) → SameTexts i n m from m' from used
  same-texts-kept from used texts within = record {
    others = λ e j h k ne. kept_word e j h k;
    texts = λ e h.
        rw (kept_word e 3 h (omega arith), ← part-part m' from used (text_at m i e) (text_len m i e) (within e h), texts)
        (part-part m from used (text_at m i e) (text_len m i e) (within e h));
    within = λ e h. rw (kept_word e 3 h (omega arith)) (within e h);
  }

-- ---- rows as words of the memory, and as a table

module _ (m : List ℕ) (i k n : ℕ) (fits : 6 * n ≤ k) where
  row_word : (e j : ℕ) → e < n → j < 6 → word (words m i k) (6 * e + j) ≡ word m (i + 6 * e + j)
  unfolding words
  row_word e j h g =
      let p : i + 6 * e + j ≡ i + (6 * e + j) = omega arith in
      rw p (word-part m i (4 * k) (6 * e + j) (omega (arith, fits, h, g)))

  row_at : (e : ℕ) → e < n → at (words m i k) e ≡ text_at m i e
  unfolding at
  row_at e h = row_word e 3 h (omega arith)

  row_len : (e : ℕ) → e < n → len (words m i k) e ≡ text_len m i e
  unfolding len
  row_len e h = row_word e 4 h (omega arith)

  pub row-sum : sum_below (len (words m i k)) n ≡ lens m i n
  row-sum = sum_below-ext _ _ n row_len

  -- the rows of a good table have their texts inside the bytes used
  pub table-same-texts : {used b : ℕ} {x heads : List ℕ} (from : ℕ) → ValidTable used x (words m i k) heads b n → SameTexts i n m from m from used
  table-same-texts from g = same-texts-kept i n m m refl from _ refl (λ e h. omega (arith, (g.texts e h).within, row_at e h, row_len e h))

-- rows with the same texts are the same table, except for the places of the texts
module _ (i k n : ℕ) (fits : 6 * n ≤ k) (m m' : List ℕ) (from to used used' size : ℕ) (bound : used ≤ size) (bound' : used' ≤ size) (old : SameTexts i n m from m from used) (new : SameTexts i n m from m' to used') where
  same_word : (e j : ℕ) → e < n → j < 6 → j ≢ 3 → word (words m' i k) (6 * e + j) ≡ word (words m i k) (6 * e + j)
  same_word e j h g ne = row_word m' i k n fits e j h g ∙ new.others e j h g ne ∙ sym (row_word m i k n fits e j h g)

  same_key : (e : ℕ) → e < n → key (words m' i k) e ≡ key (words m i k) e
  unfolding key
  same_key e h = rw (simp add-zero at (same_word e 0 h (omega arith) (omega arith)), same_word e 1 h (omega arith) (omega arith))

  same_text : (e : ℕ) → e < n → text (words m' i k) (part m' to size) e ≡ text (words m i k) (part m from size) e
  unfolding text
  same_text e h =
      rw (
        row_at m' i k n fits e h,
        row_len m' i k n fits e h,
        same-texts-len new e h,
        row_at m i k n fits e h,
        row_len m i k n fits e h,
        part-part m' to size (text_at m' i e) (text_len m i e) (omega (arith, new.within e h)),
        part-part m from size (text_at m i e) (text_len m i e) (omega (arith, old.within e h)),
      )
      (new.texts e h)

  pub same-texts-same : SameBook (words m i k) (part m from size) (words m' i k) (part m' to size) used' n
  unfolding link len info
  same-texts-same = record {
    keys = same_key;
    links = λ e h. same_word e 2 h (omega arith) (omega arith);
    lens = λ e h. same_word e 4 h (omega arith) (omega arith);
    infos = λ e h. same_word e 5 h (omega arith) (omega arith);
    texts = same_text;
    within = λ e h. omega (arith, row_at m' i k n fits e h, row_len m' i k n fits e h, same-texts-len new e h, new.within e h);
  }
