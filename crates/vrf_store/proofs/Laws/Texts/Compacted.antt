-- Laws for `compact`: the texts of all tables are moved to the other half, table by table. The book is the same, and the bytes used are
-- then exactly the bytes held.
use Rattle.std.specs.Prelude.{◌≡◌, ℕ, ◌+◌, ◌-◌, ◌*◌, ◌^◌, ◌<◌, ◌≤◌, ◌≢◌, List, length, refl}
use Rattle.std.proofs.Common.{sym, ap, subst, ◌∙◌}
use native.Mathlib.Omega.{arith}
use Rattle.vrf_words.specs.Words.{part}
use Rattle.vrf_words.specs.Inner.Words.{set_word, Apart, below, above}
use Rattle.vrf_model.specs.Book.{Allowances}
use Rattle.vrf_table.specs.Table.{key}
use Rattle.vrf_table.proofs.Laws.Chain.{by_equal}
use Rattle.vrf_store.specs.Layout
use Rattle.vrf_store.specs.Store.{Header, Store, allowances_of, header_of, half_at, words, store_by, store_of}
use Rattle.vrf_store.specs.Check.{text_sum}
use Rattle.vrf_store.specs.Inner.WellFormed.{WellFormed}
use Rattle.vrf_store.specs.Inner.Memory.{WrittenStore}
use Rattle.vrf_store.specs.Inner.Texts.{with_text_use, with_moved_texts, lens, SameTexts, Movable, TextsMoved, Compacted}
use Rattle.vrf_store.proofs.Laws.Memory.Regions.{half-above, half-within}
use Rattle.vrf_store.proofs.Laws.Memory.Header.{header-same, counters-same}
use Rattle.vrf_store.proofs.Laws.Memory.Written.{wrote-used, wrote-half}
use Rattle.vrf_store.proofs.Laws.Texts.Same.{SameBook, moved-texts-stepped}
use Rattle.vrf_store.proofs.Laws.Texts.Rows.{same-texts-lens, within-own, same-texts-then, same-texts-more, row-sum, table-same-texts, same-texts-same}
use Rattle.vrf_store.proofs.Laws.Texts.Moved.{apart-both, same-texts-past}

-- ---- the two halves

module _ (a : Allowances) (half : ℕ) where
  pub half-following : half ≡ 0 → half_at a (1 - half) ≡ half_at a half + a.text
  unfolding half_at
  half-following q = rw q

  pub half-before : half ≢ 0 → half ≤ 1 → half_at a (1 - half) + a.text ≡ half_at a half
  unfolding half_at
  half-before ne bit = let one : half ≡ 1 = omega (arith, ne) in rw one

  halves-apart : half ≤ 1 → Apart (half_at a half) a.text (half_at a (1 - half)) a.text
  halves-apart bit = by_equal half 0 (λ q. below (omega (arith, half-following q))) (λ q. above (omega (arith, half-before q bit)))

-- ---- well-formed memory

module _ (m : List ℕ) (good : WellFormed m) where
  abbrev a : Allowances
  a = allowances_of m

  abbrev h : Header
  h = header_of m

  abbrev old : ℕ
  old = half_at a h.half

  abbrev new : ℕ
  new = half_at a (1 - h.half)

  halves : Apart old a.text new a.text
  halves = halves-apart a h.half good.valid.header.half

  old-above : Layout.texts_at a ≤ old
  old-above = half-above a h.half

  new-above : Layout.texts_at a ≤ new
  new-above = half-above a (1 - h.half)

  guid-same-texts : SameTexts (Layout.guid_rows_at a) h.guids m old m old h.used
  guid-same-texts = table-same-texts m (Layout.guid_rows_at a) (6 * a.guids) h.guids (omega (arith, good.valid.header.guids)) old good.valid.guid_table

  group-same-texts : SameTexts (Layout.group_rows_at a) h.groups m old m old h.used
  group-same-texts = table-same-texts m (Layout.group_rows_at a) (6 * a.groups) h.groups (omega (arith, good.valid.header.groups)) old good.valid.group_table

  field-same-texts : SameTexts (Layout.field_rows_at a) h.fields m old m old h.used
  field-same-texts = table-same-texts m (Layout.field_rows_at a) (6 * a.fields) h.fields (omega (arith, good.valid.header.fields)) old good.valid.field_table

  total : lens m (Layout.guid_rows_at a) h.guids + lens m (Layout.group_rows_at a) h.groups + lens m (Layout.field_rows_at a) h.fields ≡ h.held
  unfolding text_sum
  total = omega (
    arith,
    good.valid.total,
    row-sum m (Layout.guid_rows_at a) (6 * a.guids) h.guids (omega (arith, good.valid.header.guids)),
    row-sum m (Layout.group_rows_at a) (6 * a.groups) h.groups (omega (arith, good.valid.header.groups)),
    row-sum m (Layout.field_rows_at a) (6 * a.fields) h.fields (omega (arith, good.valid.header.fields)),
  )

  module _ {i n : ℕ} {m₁ : List ℕ} (low : 4 * i + 24 * n ≤ Layout.texts_at a) where
    -- the texts of this table are still in the old half
    movable : {used : ℕ} → SameTexts i n m old m₁ old h.used → header_of m₁ ≡ header_of m → length m₁ ≡ length m → used + lens m i n ≤ a.text → Movable m₁ i n old new used (allowances_of m₁).text
    movable {used} s header long fits =
        let same : (allowances_of m₁).text ≡ a.text = ap (λ (z : Header). z.allowed.text) header in
        subst (λ (size : ℕ). Movable m₁ i n old new used size) (sym same) (record {
          rows_from = omega (arith, low, old-above);
          rows_to = omega (arith, low, new-above);
          old = omega (arith, long, half-within a h.half, good.enough);
          new = omega (arith, long, half-within a (1 - h.half), good.enough);
          halves = halves;
          within = λ e k. omega (arith, within-own s e k, good.valid.header.used);
          fits = omega (arith, same-texts-lens s, fits);
          small = omega (arith, good.valid.header.tops.text);
        })

    module _ {m₂ : List ℕ} {i' n' used end : ℕ} (d : TextsMoved m₁ m₂ i' n' old new used end) (low' : 4 * i' + 24 * n' ≤ Layout.texts_at a) (rows : Apart (4 * i) (24 * n) (4 * i') (24 * n')) where
      still-old : end ≤ a.text → SameTexts i n m old m₁ old h.used → SameTexts i n m old m₂ old h.used
      still-old fits s = same-texts-past s d rows (omega (arith, low, new-above)) (omega (arith, low', old-above))
          (apart-both _ _ _ _ (omega arith) (omega (arith, good.valid.header.used)) (omega arith) (omega (arith, fits, d.sum)) halves)

      still-new : SameTexts i n m old m₁ new used → SameTexts i n m old m₂ new used
      still-new s = same-texts-past s d rows (omega (arith, low, new-above)) (omega (arith, low', new-above)) (below (omega arith))

  -- ---- table by table

  guid-low : 4 * Layout.guid_rows_at a + 24 * h.guids ≤ Layout.texts_at a
  guid-low = omega (arith, good.valid.header.guids)

  group-low : 4 * Layout.group_rows_at a + 24 * h.groups ≤ Layout.texts_at a
  group-low = omega (arith, good.valid.header.groups)

  field-low : 4 * Layout.field_rows_at a + 24 * h.fields ≤ Layout.texts_at a
  field-low = omega (arith, good.valid.header.fields)

  guid-group : 4 * Layout.guid_rows_at a + 24 * h.guids ≤ 4 * Layout.group_rows_at a
  guid-group = omega (arith, good.valid.header.guids)

  group-field : 4 * Layout.group_rows_at a + 24 * h.groups ≤ 4 * Layout.field_rows_at a
  group-field = omega (arith, good.valid.header.groups)

  guids-movable : Movable m (Layout.guid_rows_at a) h.guids old new 0 a.text
  guids-movable = movable guid-low guid-same-texts refl refl (omega (arith, total, good.valid.header.held))

  module _ {m₁ : List ℕ} {u₁ : ℕ} (d₁ : TextsMoved m m₁ (Layout.guid_rows_at a) h.guids old new 0 u₁) where
    fits₁ : u₁ ≤ a.text
    fits₁ = omega (arith, d₁.sum, total, good.valid.header.held)

    start₁ : part m₁ 0 128 ≡ part m 0 128
    start₁ = d₁.kept 0 128 (below (omega arith)) (below (omega (arith, new-above)))

    group₁ : SameTexts (Layout.group_rows_at a) h.groups m old m₁ old h.used
    group₁ = still-old group-low d₁ guid-low (above guid-group) fits₁ group-same-texts

    field₁ : SameTexts (Layout.field_rows_at a) h.fields m old m₁ old h.used
    field₁ = still-old field-low d₁ guid-low (above (omega (arith, guid-group, group-field))) fits₁ field-same-texts

    groups-movable : Movable m₁ (Layout.group_rows_at a) h.groups old new u₁ (allowances_of m₁).text
    groups-movable = movable group-low group₁ (header-same m m₁ start₁) d₁.long (omega (arith, d₁.sum, total, good.valid.header.held))

    module _ {m₂ : List ℕ} {u₂ : ℕ} (d₂ : TextsMoved m₁ m₂ (Layout.group_rows_at a) h.groups old new u₁ u₂) where
      sum₂ : u₂ ≡ u₁ + lens m (Layout.group_rows_at a) h.groups
      sum₂ = omega (arith, d₂.sum, same-texts-lens group₁)

      fits₂ : u₂ ≤ a.text
      fits₂ = omega (arith, d₁.sum, sum₂, total, good.valid.header.held)

      start₂ : part m₂ 0 128 ≡ part m 0 128
      start₂ = d₂.kept 0 128 (below (omega arith)) (below (omega (arith, new-above))) ∙ start₁

      guid₂ : SameTexts (Layout.guid_rows_at a) h.guids m old m₂ new u₁
      guid₂ = still-new guid-low d₂ group-low (below guid-group) d₁.same_texts

      field₂ : SameTexts (Layout.field_rows_at a) h.fields m old m₂ old h.used
      field₂ = still-old field-low d₂ group-low (above group-field) fits₂ field₁

      fields-movable : Movable m₂ (Layout.field_rows_at a) h.fields old new u₂ (allowances_of m₂).text
      fields-movable = movable field-low field₂ (header-same m m₂ start₂) (d₂.long ∙ d₁.long) (omega (arith, d₁.sum, sum₂, total, good.valid.header.held))

      module _ {m₃ : List ℕ} {u₃ : ℕ} (d₃ : TextsMoved m₂ m₃ (Layout.field_rows_at a) h.fields old new u₂ u₃) where
        -- the bytes used are then the bytes held
        sum₃ : u₃ ≡ h.held
        sum₃ = omega (arith, d₁.sum, sum₂, d₃.sum, same-texts-lens field₂, total)

        fits₃ : u₃ ≤ a.text
        fits₃ = omega (arith, sum₃, good.valid.header.held)

        start₃ : part m₃ 0 128 ≡ part m 0 128
        start₃ = d₃.kept 0 128 (below (omega arith)) (below (omega (arith, new-above))) ∙ start₂

        long₃ : length m₃ ≡ length m
        long₃ = d₃.long ∙ d₂.long ∙ d₁.long

        guid₃ : SameTexts (Layout.guid_rows_at a) h.guids m old m₃ new u₃
        guid₃ = same-texts-more (omega (arith, d₃.sum)) (still-new guid-low d₃ field-low (below (omega (arith, guid-group, group-field))) (same-texts-more (omega (arith, d₂.sum)) guid₂))

        group₃ : SameTexts (Layout.group_rows_at a) h.groups m old m₃ new u₃
        group₃ = same-texts-more (omega (arith, d₃.sum)) (still-new group-low d₃ field-low (below group-field) (same-texts-then group₁ d₂.same_texts))

        field₃ : SameTexts (Layout.field_rows_at a) h.fields m old m₃ new u₃
        field₃ = same-texts-then field₂ d₃.same_texts

        -- words before the texts that belong to no row are unchanged
        outside : (i k : ℕ) → Apart (4 * i) (4 * k) (4 * Layout.guid_rows_at a) (24 * h.guids) → Apart (4 * i) (4 * k) (4 * Layout.group_rows_at a) (24 * h.groups) → Apart (4 * i) (4 * k) (4 * Layout.field_rows_at a) (24 * h.fields) → 4 * i + 4 * k ≤ Layout.texts_at a → words m₃ i k ≡ words m i k
        unfolding words
        outside i k p q r low =
            let texts : 4 * i + 4 * k ≤ new = omega (arith, low, new-above) in
            d₃.kept (4 * i) (4 * k) r (below (omega (arith, texts))) ∙ d₂.kept (4 * i) (4 * k) q (below (omega (arith, texts))) ∙ d₁.kept (4 * i) (4 * k) p (below (omega (arith, texts)))

        -- words between the group rows and the field rows
        middle : (i k : ℕ) → 4 * Layout.group_rows_at a + 24 * h.groups ≤ 4 * i → 4 * i + 4 * k ≤ 4 * Layout.field_rows_at a → words m₃ i k ≡ words m i k
        middle i k p q = outside i k (above (omega (arith, guid-group, p))) (above p) (below q) (omega (arith, q))

        -- ---- the header

        abbrev s' : Store
        s' = with_moved_texts (store_of m) u₃ (1 - h.half) (words m₃ (Layout.guid_rows_at a) (6 * a.guids)) (words m₃ (Layout.group_rows_at a) (6 * a.groups)) (words m₃ (Layout.field_rows_at a) (6 * a.fields)) (part m₃ new a.text)

        parts : store_by (with_text_use (header_of m) u₃ (1 - h.half)) m₃ ≡ s'
        parts =
            rw (
              outside (Layout.guid_heads_at a) (Layout.guid_buckets a) (above (omega (arith, good.valid.header.guids))) (below (omega arith)) (below (omega arith)) (omega arith),
              middle (Layout.group_heads_at a) (Layout.group_buckets a) (omega (arith, good.valid.header.groups)) (omega arith),
              middle (Layout.path_links_at a) (3 * a.groups) (omega (arith, good.valid.header.groups)) (omega arith),
              middle (Layout.path_heads_at a) (Layout.path_buckets a) (omega (arith, good.valid.header.groups)) (omega arith),
              middle (Layout.leaf_links_at a) a.groups (omega (arith, good.valid.header.groups)) (omega arith),
              middle (Layout.leaf_heads_at a) (Layout.leaf_buckets a) (omega (arith, good.valid.header.groups)) (omega arith),
              outside (Layout.field_heads_at a) (Layout.field_buckets a) (above (omega (arith, good.valid.header.guids))) (above (omega (arith, good.valid.header.groups))) (above (omega (arith, good.valid.header.fields))) (omega arith),
              outside (Layout.literals_at a) a.literals (above (omega (arith, good.valid.header.guids))) (above (omega (arith, good.valid.header.groups))) (above (omega (arith, good.valid.header.fields))) (omega arith),
            )

        abbrev m' : List ℕ
        m' = set_word (set_word m₃ 10 (1 - h.half)) 9 u₃

        same₃ : header_of m₃ ≡ header_of m
        same₃ = header-same m m₃ start₃

        moved : WrittenStore m m₃ (store_of m₃)
        moved = record { store = refl; allowed = ap (λ (z : Header). z.allowed) same₃; counters = counters-same m m₃ start₃; long = long₃ }

        -- the header then has the new half in use
        written : WrittenStore m m' s'
        written =
            let space : 128 ≤ length m = omega (arith, good.enough) in
            let small : u₃ < 2 ^ 32 = omega (arith, fits₃, good.valid.header.tops.text) in
            subst (λ (s : Store). WrittenStore m m' s)
            (ap (λ (z : Header). store_by (with_text_use z u₃ (1 - h.half)) m₃) same₃ ∙ parts)
            (wrote-used (wrote-half moved (1 - h.half) (omega arith) space) u₃ small space)

        -- ---- each table keeps its texts

        same-guids : SameBook (store_of m).guid_rows (store_of m).texts s'.guid_rows s'.texts u₃ h.guids
        same-guids = same-texts-same (Layout.guid_rows_at a) (6 * a.guids) h.guids (omega (arith, good.valid.header.guids)) m m₃ old new h.used u₃ a.text good.valid.header.used fits₃ guid-same-texts guid₃

        same-groups : SameBook (store_of m).group_rows (store_of m).texts s'.group_rows s'.texts u₃ h.groups
        same-groups = same-texts-same (Layout.group_rows_at a) (6 * a.groups) h.groups (omega (arith, good.valid.header.groups)) m m₃ old new h.used u₃ a.text good.valid.header.used fits₃ group-same-texts group₃

        same-fields : SameBook (store_of m).field_rows (store_of m).texts s'.field_rows s'.texts u₃ h.fields
        same-fields = same-texts-same (Layout.field_rows_at a) (6 * a.fields) h.fields (omega (arith, good.valid.header.fields)) m m₃ old new h.used u₃ a.text good.valid.header.used fits₃ field-same-texts field₃

        compacted : Compacted m m'
        compacted = record {
          stepped = moved-texts-stepped good u₃ (1 - h.half) same-guids same-groups same-fields fits₃ (omega arith) written;
          header = ap (λ (s : Store). s.header) written.store ∙ ap (λ (u : ℕ). with_text_use (header_of m) u (1 - h.half)) sum₃;
          keys = λ e k. ap (λ (s : Store). key s.field_rows e) written.store ∙ same-fields.keys e k;
        }

-- ---- the memory after the moves and the writes

-- what the code reads before it moves texts: the halves, the row count of each table, and where the rows of groups and fields begin
pub record CompactionStart (m : List ℕ) (from to guids groups fields groups_at fields_at : ℕ) : Type 0 where
  pub old-half : from ≡ half_at (allowances_of m) (header_of m).half
  pub new-half : to ≡ half_at (allowances_of m) (1 - (header_of m).half)
  pub guid-count : guids ≡ (header_of m).guids
  pub group-count : groups ≡ (header_of m).groups
  pub field-count : fields ≡ (header_of m).fields
  pub group-rows : groups_at ≡ Layout.group_rows_at (allowances_of m)
  pub field-rows : fields_at ≡ Layout.field_rows_at (allowances_of m)

-- the places of the rows follow from the allowances
pub compaction-start : {m : List ℕ} {from to guids groups fields g r : ℕ} → from ≡ half_at (allowances_of m) (header_of m).half → to ≡ half_at (allowances_of m) (1 - (header_of m).half)
    → guids ≡ (header_of m).guids → groups ≡ (header_of m).groups → fields ≡ (header_of m).fields → g ≡ (allowances_of m).guids → r ≡ (allowances_of m).groups
    → CompactionStart m from to guids groups fields (33 + 10 * g) (33 + 10 * g + 3 + 16 * r)
compaction-start old new n k f g r = record { old-half = old; new-half = new; guid-count = n; group-count = k; field-count = f; group-rows = omega (arith, g); field-rows = omega (arith, g, r) }

module _ {m : List ℕ} (good : WellFormed m) {from to guids groups fields groups_at fields_at : ℕ} (found : CompactionStart m from to guids groups fields groups_at fields_at) where
  pub first-movable : Movable m 32 guids from to 0 (allowances_of m).text
  first-movable = rw (found.guid-count, found.old-half, found.new-half) (guids-movable m good)

  module _ {m₁ : List ℕ} {u₁ : ℕ} (d₁ : TextsMoved m m₁ 32 guids from to 0 u₁) where
    first : TextsMoved m m₁ 32 (header_of m).guids (old m good) (new m good) 0 u₁
    first = rw (found.guid-count, found.old-half, found.new-half) at d₁

    pub second-movable : Movable m₁ groups_at groups from to u₁ (allowances_of m₁).text
    second-movable = rw (found.group-rows, found.group-count, found.old-half, found.new-half) (groups-movable m good first)

    module _ {m₂ : List ℕ} {u₂ : ℕ} (d₂ : TextsMoved m₁ m₂ groups_at groups from to u₁ u₂) where
      second : TextsMoved m₁ m₂ (Layout.group_rows_at (allowances_of m)) (header_of m).groups (old m good) (new m good) u₁ u₂
      second = rw (found.group-rows, found.group-count, found.old-half, found.new-half) at d₂

      pub third-movable : Movable m₂ fields_at fields from to u₂ (allowances_of m₂).text
      third-movable = rw (found.field-rows, found.field-count, found.old-half, found.new-half) (fields-movable m good first second)

      module _ {m₃ : List ℕ} {u₃ : ℕ} (d₃ : TextsMoved m₂ m₃ fields_at fields from to u₂ u₃) where
        third : TextsMoved m₂ m₃ (Layout.field_rows_at (allowances_of m)) (header_of m).fields (old m good) (new m good) u₂ u₃
        third = rw (found.field-rows, found.field-count, found.old-half, found.new-half) at d₃

        pub compact-written : (m₄ m₅ : List ℕ) (half : ℕ) → half ≡ (header_of m).half → m₄ ≡ set_word m₃ 10 (1 - half) → m₅ ≡ set_word m₄ 9 u₃ → Compacted m m₅
        compact-written m₄ m₅ half b e₄ e₅ = rw (e₅, e₄, b) (compacted m good first second third)
