-- Laws for `open` and `clear_book`: when opening is refused, and the memory afterwards.
use Rattle.std.specs.Prelude.{◌≡◌, ℕ, ◌+◌, ◌*◌, ◌^◌, ◌<◌, ◌≤◌, List, length, replicate, nat_lt, Option as Answer, Some, None}
use Rattle.std.proofs.Math.Path.{refl, ap}
use Rattle.std.proofs.Common.{sym, ◌∙◌, arith}
use Rattle.std.proofs.Math.Option.{Option, none, some, get_or}
use Rattle.std.proofs.lemmas.List.{length-replicate}
use borrow.Author.Tests.{ltb-false, lt-ltb, le-ltb}
use Rattle.vrf_bitio.specs.Pasted.{pasted}
use Rattle.vrf_bitio.proofs.Laws.Pasted.{pasted_length}
use Rattle.vrf_bitio.proofs.Laws.Cases.{by_cond}
use Rattle.vrf_words.specs.Words.{word}
use Rattle.vrf_words.specs.Inner.Words.{set_word}
use Rattle.vrf_model.specs.Book.{Allowances, zero_counters, fresh, fresh_book}
use Rattle.vrf_model.specs.Lawful.{Allowed}
use Rattle.vrf_table.specs.Inner.Answers.{entry}
use Rattle.vrf_store.specs.Layout
use Rattle.vrf_store.specs.Store.{Header, allowances_of, header_of, long, counters_of, words, store_of, content_of, book_of}
use Rattle.vrf_store.specs.Opening.{above_top, opened, not_opened, unless_short, unless_above, opening, zero_above, memory_needed}
use Rattle.vrf_store.specs.Inner.WellFormed.{WellFormed}
use Rattle.vrf_store.specs.Inner.Stepped.{Stepped, held}
use Rattle.vrf_store.specs.Inner.Opening.{FreshMemory, BetweenWritten, empty_header}
use Rattle.vrf_store.proofs.Laws.Memory.Regions.{above as words-above}
use Rattle.vrf_store.proofs.Laws.Memory.Header.{header-kept, counters-kept}
use Rattle.vrf_store.proofs.Laws.Memory.HeaderWords.{has-now, has-header, has-counters, has_word, has-zeros}
use Rattle.vrf_store.proofs.Laws.Opening.Empty.{empty-good, empty-held}

-- ---- allowances above their tops

-- a number above 0 is the number of an allowance
above : (o : Option ℕ) → 0 < get_or o 0 → o ≡ some (get_or o 0)
above none h = absurd (omega (arith, h))
above (some which) h = refl

module _ (a : Allowances) where
  -- every allowance is within its top
  record Topped (o : Option ℕ) : Type 0 where
    tops : Allowed a
    is-none : o ≡ none

  within : get_or (above_top a) 0 ≡ 0 → Topped (above_top a)
  unfolding above_top
  within =
      by_cond (λ (o : Option ℕ). get_or o 0 ≡ 0 → Topped o) (nat_lt 1000000 a.guids) (λ e z. absurd (omega (arith, z))) (λ g.
      by_cond (λ (o : Option ℕ). get_or o 0 ≡ 0 → Topped o) (nat_lt 100000 a.groups) (λ e z. absurd (omega (arith, z))) (λ r.
      by_cond (λ (o : Option ℕ). get_or o 0 ≡ 0 → Topped o) (nat_lt 1000000 a.fields) (λ e z. absurd (omega (arith, z))) (λ f.
      by_cond (λ (o : Option ℕ). get_or o 0 ≡ 0 → Topped o) (nat_lt 67108864 a.text) (λ e z. absurd (omega (arith, z))) (λ t.
      by_cond (λ (o : Option ℕ). get_or o 0 ≡ 0 → Topped o) (nat_lt 1000000 a.literals) (λ e z. absurd (omega (arith, z))) (λ l z.
      record {
        tops = record { guids = ltb-false 1000000 a.guids g; groups = ltb-false 100000 a.groups r; fields = ltb-false 1000000 a.fields f; text = ltb-false 67108864 a.text t; literals = ltb-false 1000000 a.literals l };
        is-none = refl;
      })))))

  -- the same, where 0 stands for no allowance
  zero : {which : ℕ} → which ≡ get_or (above_top a) 0 → which ≤ 0 → get_or (above_top a) 0 ≡ 0
  zero e h = omega (arith, e, h)

  -- r is the number of the allowance that is above its top, if one is
  module _ {r : Answer ℕ} (e : entry r ≡ above_top a) where
    module _ {which : ℕ} (h : r ≡ Some which) where
      there : above_top a ≡ some which
      there = sym e ∙ ap entry h

      pub needed-above : memory_needed a ≡ 0
      unfolding memory_needed zero_above
      needed-above = rw there

      pub refused-above : (n : ℕ) → opening a n ≡ not_opened 1 which 0
      unfolding opening unless_above
      refused-above n = rw there

    module _ (h : r ≡ None) where
      none-there : above_top a ≡ none
      none-there = sym e ∙ ap entry h

      pub within-tops : Allowed a
      within-tops = (within (ap (λ (o : Option ℕ). get_or o 0) none-there)).tops

      pub needed-within : memory_needed a ≡ Layout.need a
      unfolding memory_needed zero_above
      needed-within = rw none-there

      module _ (n : ℕ) where
        pub refused-short : {bytes : ℕ} → bytes ≡ Layout.need a → n < bytes → opening a n ≡ not_opened 3 bytes 0
        unfolding opening unless_above unless_short
        refused-short q k = rw (none-there, lt-ltb n (Layout.need a) (omega arith), q)

        pub accepted : Layout.need a ≤ n → opening a n ≡ opened
        unfolding opening unless_above unless_short
        accepted k = rw (none-there, le-ltb n (Layout.need a) k)

-- ---- writing the header of a book that holds nothing: the allowances, then zeros

module _ (a : Allowances) (m : List ℕ) {m0 m1 m2 m3 m4 z : List ℕ} (space : 128 ≤ length m) where
  pub written-header : a.guids < 2 ^ 32 → a.groups < 2 ^ 32 → a.fields < 2 ^ 32 → a.text < 2 ^ 32 → a.literals < 2 ^ 32 → m0 ≡ set_word m 0 a.guids → m1 ≡ set_word m0 1 a.groups
      → m2 ≡ set_word m1 2 a.fields → m3 ≡ set_word m2 3 a.text → m4 ≡ set_word m3 4 a.literals → z ≡ pasted m4 20 (replicate 108 0)
      → (header_of z ≡ empty_header a 0) × (counters_of z ≡ zero_counters) × (length z ≡ length m)
  unfolding zero_counters
  written-header g r f t l e0 e1 e2 e3 e4 e =
      let h0 = has_word (has-now m) space 0 a.guids (omega arith) g e0 in
      let h1 = has_word h0 space 1 a.groups (omega arith) r e1 in
      let h2 = has_word h1 space 2 a.fields (omega arith) f e2 in
      let h3 = has_word h2 space 3 a.text (omega arith) t e3 in
      let h4 = has_word h3 space 4 a.literals (omega arith) l e4 in
      let h = has-zeros h4 5 27 (omega arith) e in
      (has-header h, has-counters h, h.long)

-- ---- clearing heads: zeros between the header and the literals

kept-now : (m : List ℕ) → BetweenWritten m m
kept-now m = record { header = refl; counters = refl; long = refl; literals = refl }

-- the literals at the place that the allowances a give
abbrev literals_by : Allowances → List ℕ → List ℕ
literals_by a m = words m (Layout.literals_at a) a.literals

-- zeros before the literals do not change them
literals-kept : (m z : List ℕ) (b : Allowances) (i n : ℕ) → allowances_of z ≡ b → allowances_of m ≡ b → i + n ≤ Layout.literals_at b → 4 * (i + n) ≤ length m → z ≡ pasted m (4 * i) (replicate (4 * n) 0) → (store_of z).literals ≡ (store_of m).literals
literals-kept m z b i n az am before fits e =
    let size : length {A = ℕ} (replicate (4 * n) 0) ≡ 4 * n = length-replicate (4 * n) 0 in
    let space : 4 * i + length {A = ℕ} (replicate (4 * n) 0) ≤ length m = omega (arith, size, fits) in
    ap (λ (a : Allowances). literals_by a z) az ∙ ap (literals_by b) e ∙ words-above m (replicate (4 * n) 0) (4 * i) space (Layout.literals_at b) b.literals (omega (arith, size, before)) ∙ ap (λ (a : Allowances). literals_by a m) (sym am)

kept-zeros : {m m' z : List ℕ} → BetweenWritten m m' → (i n : ℕ) → 32 ≤ i → i + n ≤ Layout.literals_at (allowances_of m) → 4 * (i + n) ≤ length m → z ≡ pasted m' (4 * i) (replicate (4 * n) 0) → BetweenWritten m z
kept-zeros {m} {m'} {z} k i n following before fits e =
    let size : length {A = ℕ} (replicate (4 * n) 0) ≡ 4 * n = length-replicate (4 * n) 0 in
    let space : 4 * i + length {A = ℕ} (replicate (4 * n) 0) ≤ length m' = omega (arith, size, fits, k.long) in
    let low : 128 ≤ 4 * i = omega arith in
    let header : header_of z ≡ header_of m = ap header_of e ∙ header-kept m' (replicate (4 * n) 0) (4 * i) low space ∙ k.header in
    record {
      header = header;
      counters = ap counters_of e ∙ counters-kept m' (replicate (4 * n) 0) (4 * i) low space ∙ k.counters;
      long = ap length e ∙ pasted_length (replicate (4 * n) 0) m' (4 * i) space ∙ k.long;
      literals = literals-kept m' z (allowances_of m) i n (ap (λ (h : Header). h.allowed) header) (ap (λ (h : Header). h.allowed) k.header) before (omega (arith, fits, k.long)) e ∙ k.literals;
    }

-- the heads of all tables and indexes
module _ {m m1 m2 m3 m4 z : List ℕ} (g r f : ℕ) (enough : Layout.need (allowances_of m) ≤ length m) where
  pub kept-heads : g ≡ word m 0 → r ≡ word m 1 → f ≡ word m 2 → m1 ≡ pasted m (4 * (32 + 6 * g)) (replicate (4 * (4 * g + 1)) 0)
      → m2 ≡ pasted m1 (4 * (33 + 10 * g + 6 * r)) (replicate (4 * (r + 1)) 0) → m3 ≡ pasted m2 (4 * (34 + 10 * g + 10 * r)) (replicate (4 * (3 * r + 1)) 0)
      → m4 ≡ pasted m3 (4 * (35 + 10 * g + 14 * r)) (replicate (4 * (2 * r + 1)) 0) → z ≡ pasted m4 (4 * (36 + 10 * g + 16 * r + 6 * f)) (replicate (4 * (4 * f + 1)) 0) → BetweenWritten m z
  kept-heads eg er ef e1 e2 e3 e4 e =
      let k1 = kept-zeros (kept-now m) (32 + 6 * g) (4 * g + 1) (omega arith) (omega arith) (omega arith) e1 in
      let k2 = kept-zeros k1 (33 + 10 * g + 6 * r) (r + 1) (omega arith) (omega arith) (omega arith) e2 in
      let k3 = kept-zeros k2 (34 + 10 * g + 10 * r) (3 * r + 1) (omega arith) (omega arith) (omega arith) e3 in
      let k4 = kept-zeros k3 (35 + 10 * g + 14 * r) (2 * r + 1) (omega arith) (omega arith) (omega arith) e4 in
      kept-zeros k4 (36 + 10 * g + 16 * r + 6 * f) (4 * f + 1) (omega arith) (omega arith) (omega arith) e

-- ---- a memory with the header of a book that holds nothing

module _ (a : Allowances) (half : ℕ) (m : List ℕ) (h : header_of m ≡ empty_header a half) (enough : Layout.need a ≤ length m) where
  pub empty-enough : Layout.need (allowances_of m) ≤ length m
  empty-enough = omega (arith, ap (λ (x : Header). Layout.need x.allowed) h)

  module _ {z : List ℕ} (k : BetweenWritten m z) where
    cleared-good : Allowed a → half ≤ 1 → WellFormed z
    cleared-good = empty-good a half z (omega (arith, k.long)) (k.header ∙ h)

    cleared-held : held z ≡ fresh a
    cleared-held = empty-held a half z (omega (arith, k.long)) (k.header ∙ h)

-- opening: y is m with the header written, z is y with the heads cleared
pub opened-fresh : (a : Allowances) {m y z : List ℕ} → opening a (length m) ≡ opened → Allowed a → Layout.need a ≤ length m → header_of y ≡ empty_header a 0 → counters_of y ≡ zero_counters → length y ≡ length m → BetweenWritten y z → FreshMemory a m z
unfolding book_of fresh_book
opened-fresh a {m} {y} {z} ok tops enough h none_yet same k =
    let space : Layout.need a ≤ length y = omega arith in
    let few : 0 ≤ 1 = omega arith in
    let content : held z ≡ fresh a = cleared-held a 0 y h space k in
    let counted : counters_of z ≡ zero_counters = k.counters ∙ none_yet in
    record { accepted = ok; good = cleared-good a 0 y h space k tops few; book = rw (content, counted); long = k.long ∙ same }

-- clearing: words 5 to 9 are the counts and the totals
module _ {m y : List ℕ} (g : WellFormed m) (e : y ≡ pasted m 20 (replicate 20 0)) where
  space : 128 ≤ length m
  space = omega (arith, g.enough)

  emptied-header : header_of y ≡ empty_header (allowances_of m) (word m 10)
  emptied-header = has-header (has-zeros (has-now m) 5 5 (omega (arith, space)) e)

  emptied-long : length y ≡ length m
  emptied-long = (has-zeros (has-now m) 5 5 (omega (arith, space)) e).long

  enough : Layout.need (allowances_of m) ≤ length y
  enough = omega (arith, emptied-long, g.enough)

  pub emptied-enough : Layout.need (allowances_of y) ≤ length y
  emptied-enough = empty-enough (allowances_of m) (word m 10) y emptied-header enough

  pub cleared : {z : List ℕ} → BetweenWritten y z → Stepped m z (fresh (held m).allowed)
  unfolding content_of counters_of long
  cleared k = record {
    good = cleared-good (allowances_of m) (word m 10) y emptied-header enough k g.valid.header.tops g.valid.header.half;
    content = cleared-held (allowances_of m) (word m 10) y emptied-header enough k;
    counters = k.counters ∙ has-counters (has-zeros (has-now m) 5 5 (omega (arith, space)) e);
    long = k.long ∙ emptied-long;
    literals = k.literals ∙ literals-kept m y (allowances_of m) 5 5 (ap (λ (h : Header). h.allowed) emptied-header) refl (omega arith) (omega (arith, space)) e;
  }
