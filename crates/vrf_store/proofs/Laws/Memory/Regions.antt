-- Laws about writing one part of a memory: which store the memory then holds.
use Rattle.std.specs.Prelude.{◌≡◌, ℕ, zero, suc, ◌+◌, ◌*◌, ◌≤◌, List, [], ◌∷◌, ◌++◌, length, take, ◌==◌, refl}
use Rattle.std.proofs.Common.{sym, ap₂, ◌∙◌, length-append, drop_at}
use Rattle.std.proofs.Math.Path.{ap}
use native.Mathlib.Omega.{arith}
use Rattle.std.proofs.Math.Seq.{take_at, take_all}
use Rattle.vrf_bitio.specs.Pasted.{pasted}
use Rattle.vrf_bitio.proofs.Laws.Cases.{by_cond}
use Rattle.vrf_words.specs.Words.{part}
use Rattle.vrf_words.proofs.Laws.Words.{part-pasted-below, part-pasted-above, part-pasted-same, part-pasted-in, part-part}
use Rattle.vrf_model.specs.Book.{Allowances}
use Rattle.vrf_store.specs.Layout
use Rattle.vrf_store.specs.Store.{Header, Store, half_at, words, store_by}

-- ---- a store with some of its parts replaced

abbrev pub with_guid_table : Store → List ℕ → List ℕ → Store
with_guid_table s r heads = record { header = s.header; guid_rows = r; guid_heads = heads; group_rows = s.group_rows; group_heads = s.group_heads; path_links = s.path_links; path_heads = s.path_heads; leaf_links = s.leaf_links; leaf_heads = s.leaf_heads; field_rows = s.field_rows; field_heads = s.field_heads; literals = s.literals; texts = s.texts }

abbrev pub with_field_table : Store → List ℕ → List ℕ → Store
with_field_table s r heads = record { header = s.header; guid_rows = s.guid_rows; guid_heads = s.guid_heads; group_rows = s.group_rows; group_heads = s.group_heads; path_links = s.path_links; path_heads = s.path_heads; leaf_links = s.leaf_links; leaf_heads = s.leaf_heads; field_rows = r; field_heads = heads; literals = s.literals; texts = s.texts }

-- the store with other literals and texts, the parts after the tables and indexes
abbrev pub with_end : Store → List ℕ → List ℕ → Store
with_end s l x = record { header = s.header; guid_rows = s.guid_rows; guid_heads = s.guid_heads; group_rows = s.group_rows; group_heads = s.group_heads; path_links = s.path_links; path_heads = s.path_heads; leaf_links = s.leaf_links; leaf_heads = s.leaf_heads; field_rows = s.field_rows; field_heads = s.field_heads; literals = l; texts = x }

abbrev pub with_literals : Store → List ℕ → Store
with_literals s l = with_end s l s.texts

abbrev pub with_texts : Store → List ℕ → Store
with_texts s x = with_end s s.literals x

abbrev pub with_header : Store → Header → Store
with_header s h = record { header = h; guid_rows = s.guid_rows; guid_heads = s.guid_heads; group_rows = s.group_rows; group_heads = s.group_heads; path_links = s.path_links; path_heads = s.path_heads; leaf_links = s.leaf_links; leaf_heads = s.leaf_heads; field_rows = s.field_rows; field_heads = s.field_heads; literals = s.literals; texts = s.texts }

-- ---- the halves of the texts: after all words, and inside the memory

pub half-above : (a : Allowances) (half : ℕ) → Layout.texts_at a ≤ half_at a half
unfolding half_at
half-above a half = by_cond (λ (x : ℕ). Layout.texts_at a ≤ x) (half == 0) (λ e. omega arith) (λ e. omega arith)

pub half-within : (a : Allowances) (half : ℕ) → half_at a half + a.text ≤ Layout.need a
unfolding half_at
half-within a half = by_cond (λ (x : ℕ). x + a.text ≤ Layout.need a) (half == 0) (λ e. omega arith) (λ e. omega arith)

-- ---- a write at byte `at`: parts before and after it are unchanged

module _ (m r : List ℕ) (at : ℕ) (fits : at + length r ≤ length m) where
  below : (i n : ℕ) → 4 * i + 4 * n ≤ at → words (pasted m at r) i n ≡ words m i n
  unfolding words
  below i n k = part-pasted-below m r at (4 * i) (4 * n) k fits

  pub above : (i n : ℕ) → at + length r ≤ 4 * i → words (pasted m at r) i n ≡ words m i n
  unfolding words
  above i n k = part-pasted-above m r at (4 * i) (4 * n) k fits

  half-kept : (a : Allowances) (half : ℕ) → at + length r ≤ Layout.texts_at a → part (pasted m at r) (half_at a half) a.text ≡ part m (half_at a half) a.text
  half-kept a half k = part-pasted-above m r at (half_at a half) a.text (omega (arith, k, half-above a half)) fits

-- two adjacent parts, written at once
module _ (m r heads : List ℕ) (i n k : ℕ) (lr : length r ≡ 4 * n) (lh : length heads ≡ 4 * k) (fits : 4 * i + 4 * n + 4 * k ≤ length m) where
  both : length (r ++ heads) ≡ 4 * n + 4 * k
  both = length-append r heads ∙ omega (arith, lr, lh)

  whole : part (pasted m (4 * i) (r ++ heads)) (4 * i) (length (r ++ heads)) ≡ r ++ heads
  whole = part-pasted-same m (r ++ heads) (4 * i) (omega (arith, both, fits))

  -- a part of the bytes just written
  inner : (a n : ℕ) → a + n ≤ length (r ++ heads) → part (pasted m (4 * i) (r ++ heads)) (4 * i + a) n ≡ part (r ++ heads) a n
  inner a n h = sym (part-part (pasted m (4 * i) (r ++ heads)) (4 * i) (length (r ++ heads)) a n h) ∙ ap (λ (z : List ℕ). part z a n) whole

  front : words (pasted m (4 * i) (r ++ heads)) i n ≡ r
  unfolding words part
  front =
      let e : 4 * i ≡ 4 * i + 0 = omega arith in
      ap (λ (a : ℕ). part (pasted m (4 * i) (r ++ heads)) a (4 * n)) e ∙ inner 0 (4 * n) (omega (arith, both)) ∙ take_at r heads (4 * n) lr

  back : (j : ℕ) → j ≡ i + n → words (pasted m (4 * i) (r ++ heads)) j k ≡ heads
  unfolding words part
  back j q =
      let e : 4 * j ≡ 4 * i + 4 * n = omega (arith, q) in
      ap (λ (a : ℕ). part (pasted m (4 * i) (r ++ heads)) a (4 * k)) e ∙ inner (4 * n) (4 * k) (omega (arith, both)) ∙ ap (take (4 * k)) (drop_at r heads (4 * n) lr) ∙ take_all (4 * k) heads (omega (arith, lh))

-- ---- the parts of a store in the order of the memory

-- the n words from word `at` on
pub record Region : Type 0 where
  pub at : ℕ
  pub size : ℕ

-- the tables, the indexes and the literals
abbrev pub regions : Allowances → List Region
regions a =
    record { at = Layout.guid_rows_at a; size = 6 * a.guids }
    ∷ record { at = Layout.guid_heads_at a; size = Layout.guid_buckets a }
    ∷ record { at = Layout.group_rows_at a; size = 6 * a.groups }
    ∷ record { at = Layout.group_heads_at a; size = Layout.group_buckets a }
    ∷ record { at = Layout.path_links_at a; size = 3 * a.groups }
    ∷ record { at = Layout.path_heads_at a; size = Layout.path_buckets a }
    ∷ record { at = Layout.leaf_links_at a; size = a.groups }
    ∷ record { at = Layout.leaf_heads_at a; size = Layout.leaf_buckets a }
    ∷ record { at = Layout.field_rows_at a; size = 6 * a.fields }
    ∷ record { at = Layout.field_heads_at a; size = Layout.field_buckets a }
    ∷ record { at = Layout.literals_at a; size = a.literals }
    ∷ []

-- each region starts where the one before it ends
abbrev Adjacent : ℕ → List Region → Type 0
Adjacent i [] = Unit {0}
Adjacent i (p ∷ ps) = (p.at ≡ i) × Adjacent (i + p.size) ps

-- region i, and that there is one after it
abbrev pub region_at : List Region → ℕ → Region
region_at [] i = record { at = 0; size = 0 }
region_at (p ∷ ps) zero = p
region_at (p ∷ ps) (suc i) = region_at ps i

abbrev pub Two : List Region → ℕ → Type 0
Two [] i = ⊥
Two (p ∷ []) i = ⊥
Two (p ∷ q ∷ ps) zero = Unit {0}
Two (p ∷ q ∷ ps) (suc i) = Two (q ∷ ps) i

abbrev parts : List ℕ → List Region → List (List ℕ)
parts m [] = []
parts m (p ∷ ps) = words m p.at p.size ∷ parts m ps

-- the store with these parts, and with two of them replaced
abbrev pick : List (List ℕ) → ℕ → List ℕ
pick [] i = []
pick (p ∷ ps) zero = p
pick (p ∷ ps) (suc i) = pick ps i

abbrev with_parts : Header → List (List ℕ) → List ℕ → Store
with_parts h ps x = record { header = h; guid_rows = pick ps 0; guid_heads = pick ps 1; group_rows = pick ps 2; group_heads = pick ps 3; path_links = pick ps 4; path_heads = pick ps 5; leaf_links = pick ps 6; leaf_heads = pick ps 7; field_rows = pick ps 8; field_heads = pick ps 9; literals = pick ps 10; texts = x }

abbrev replaced : ℕ → List ℕ → List ℕ → List (List ℕ) → List (List ℕ)
replaced i r heads [] = []
replaced zero r heads (p ∷ []) = r ∷ []
replaced zero r heads (p ∷ q ∷ ps) = r ∷ heads ∷ ps
replaced (suc i) r heads (p ∷ ps) = p ∷ replaced i r heads ps

abbrev pub with_two : ℕ → List ℕ → List ℕ → Store → Store
with_two i r heads s = with_parts s.header (replaced i r heads (s.guid_rows ∷ s.guid_heads ∷ s.group_rows ∷ s.group_heads ∷ s.path_links ∷ s.path_heads ∷ s.leaf_links ∷ s.leaf_heads ∷ s.field_rows ∷ s.field_heads ∷ s.literals ∷ [])) s.texts

-- ---- writing two adjacent parts

not-before : (i j : ℕ) (ps : List Region) → Adjacent i ps → Two ps j → i ≤ (region_at ps j).at
not-before i j [] a t = absurd t
not-before i j (p ∷ []) a t = absurd t
not-before i zero (p ∷ q ∷ ps) a t = omega (arith, a.0)
not-before i (suc j) (p ∷ q ∷ ps) a t = omega (arith, not-before (i + p.size) j (q ∷ ps) a.1 t)

module _ (m r heads : List ℕ) where
  -- the regions after the bytes written
  after_kept : (at : ℕ) → at + length (r ++ heads) ≤ length m → (i : ℕ) (ps : List Region) → Adjacent i ps → at + length (r ++ heads) ≤ 4 * i → parts (pasted m at (r ++ heads)) ps ≡ parts m ps
  after_kept at fits i [] a k = refl
  after_kept at fits i (p ∷ ps) a k = ap₂ (λ (x : List ℕ) (y : List (List ℕ)). x ∷ y) (above m (r ++ heads) at fits p.at p.size (omega (arith, k, a.0))) (after_kept at fits (i + p.size) ps a.1 (omega (arith, k)))

  put_two : (i j : ℕ) (ps : List Region) → Adjacent i ps → Two ps j → length r ≡ 4 * (region_at ps j).size → length heads ≡ 4 * (region_at ps (suc j)).size → 4 * (region_at ps j).at + length (r ++ heads) ≤ length m → parts (pasted m (4 * (region_at ps j).at) (r ++ heads)) ps ≡ replaced j r heads (parts m ps)
  put_two i j [] a t lr lh fits = absurd t
  put_two i j (p ∷ []) a t lr lh fits = absurd t
  put_two i zero (p ∷ q ∷ ps) a t lr lh fits =
      let long = length-append r heads in
      let inside : 4 * p.at + 4 * p.size + 4 * q.size ≤ length m = omega (arith, long, lr, lh, fits) in
      ap₂ (λ (x : List ℕ) (y : List (List ℕ)). x ∷ y) (front m r heads p.at p.size q.size lr lh inside)
      (ap₂ (λ (x : List ℕ) (y : List (List ℕ)). x ∷ y) (back m r heads p.at p.size q.size lr lh inside q.at (omega (arith, a.0, a.1.0)))
      (after_kept (4 * p.at) fits (i + p.size + q.size) ps a.1.1 (omega (arith, long, lr, lh, a.0))))
  put_two i (suc j) (p ∷ q ∷ ps) a t lr lh fits =
      let later = not-before (i + p.size) j (q ∷ ps) a.1 t in
      ap₂ (λ (x : List ℕ) (y : List (List ℕ)). x ∷ y) (below m (r ++ heads) (4 * (region_at (q ∷ ps) j).at) fits p.at p.size (omega (arith, later, a.0)))
      (put_two (i + p.size) j (q ∷ ps) a.1 t lr lh fits)

-- r and heads have the sizes of the regions i and i + 1, and are inside the words
pub record TwoParts (a : Allowances) (i : ℕ) (r heads : List ℕ) : Type 0 where
  pub two : Two (regions a) i
  pub rows_long : length r ≡ 4 * (region_at (regions a) i).size
  pub heads-long : length heads ≡ 4 * (region_at (regions a) (suc i)).size
  pub space : 4 * (region_at (regions a) i).at + length (r ++ heads) ≤ Layout.texts_at a

adjacent : (a : Allowances) → Adjacent 32 (regions a)
adjacent a = (omega arith, (omega arith, (omega arith, (omega arith, (omega arith, (omega arith, (omega arith, (omega arith, (omega arith, (omega arith, (omega arith, tt)))))))))))

module _ (h : Header) (m r heads : List ℕ) (i : ℕ) (p : TwoParts h.allowed i r heads) (enough : Layout.texts_at h.allowed ≤ length m) where
  pub put-parts : store_by h (pasted m (4 * (region_at (regions h.allowed) i).at) (r ++ heads)) ≡ with_two i r heads (store_by h m)
  put-parts =
      let at : ℕ = 4 * (region_at (regions h.allowed) i).at in
      let fits : at + length (r ++ heads) ≤ length m = omega (arith, p.space, enough) in
      ap₂ (with_parts h) (put_two m r heads 32 i (regions h.allowed) (adjacent h.allowed) p.two p.rows_long p.heads-long fits) (half-kept m (r ++ heads) at fits h.allowed h.half p.space)

-- ---- a write outside all tables and indexes

module _ (h : Header) (m m' : List ℕ) (same : (i n : ℕ) → 32 ≤ i → i + n ≤ Layout.literals_at h.allowed → words m' i n ≡ words m i n) where
  pub tables-kept : store_by h m' ≡ with_end (store_by h m) (store_by h m').literals (store_by h m').texts
  tables-kept =
      rw (
        same (Layout.guid_rows_at h.allowed) (6 * h.allowed.guids) (omega arith) (omega arith),
        same (Layout.guid_heads_at h.allowed) (Layout.guid_buckets h.allowed) (omega arith) (omega arith),
        same (Layout.group_rows_at h.allowed) (6 * h.allowed.groups) (omega arith) (omega arith),
        same (Layout.group_heads_at h.allowed) (Layout.group_buckets h.allowed) (omega arith) (omega arith),
        same (Layout.path_links_at h.allowed) (3 * h.allowed.groups) (omega arith) (omega arith),
        same (Layout.path_heads_at h.allowed) (Layout.path_buckets h.allowed) (omega arith) (omega arith),
        same (Layout.leaf_links_at h.allowed) h.allowed.groups (omega arith) (omega arith),
        same (Layout.leaf_heads_at h.allowed) (Layout.leaf_buckets h.allowed) (omega arith) (omega arith),
        same (Layout.field_rows_at h.allowed) (6 * h.allowed.fields) (omega arith) (omega arith),
        same (Layout.field_heads_at h.allowed) (Layout.field_buckets h.allowed) (omega arith) (omega arith),
      )

-- writing texts
module _ (h : Header) (m t : List ℕ) (enough : Layout.need h.allowed ≤ length m) where
  -- in the half in use
  pub put-texts : (at : ℕ) → at + length t ≤ h.allowed.text → store_by h (pasted m (half_at h.allowed h.half + at) t) ≡ with_texts (store_by h m) (pasted (store_by h m).texts at t)
  put-texts at k =
      let w : ℕ = half_at h.allowed h.half + at in
      let up = half-above h.allowed h.half in
      let in-half = half-within h.allowed h.half in
      let fits : w + length t ≤ length m = omega (arith, k, in-half, enough) in
      tables-kept h m (pasted m w t) (λ i n _ low. below m t w fits i n (omega (arith, up, low)))
      ∙ rw (
        below m t w fits (Layout.literals_at h.allowed) h.allowed.literals (omega (arith, up)),
        part-pasted-in m t (half_at h.allowed h.half) h.allowed.text at k (omega (arith, in-half, enough)),
      )
