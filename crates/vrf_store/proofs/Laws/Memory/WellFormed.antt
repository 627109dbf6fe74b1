-- Laws for reading a well-formed memory: its parts and numbers satisfy what the searches and the row functions require.
use Rattle.std.specs.Prelude.{◌≡◌, ℕ, ◌+◌, ◌*◌, ◌^◌, ◌<◌, ◌≤◌, List, length}
use Rattle.std.proofs.Common.{refl, ap, arith}
use Rattle.vrf_table.specs.Table.{at, len}
use Rattle.vrf_table.specs.Inner.Answers.{RowTexts}
use Rattle.vrf_store.specs.Layout
use Rattle.vrf_store.specs.Store.{Store, header_of}
use Rattle.vrf_store.specs.Inner.Valid.{ValidTable, Valid}
use Rattle.vrf_store.specs.Inner.WellFormed.{WellFormed}
use Rattle.vrf_store.specs.Inner.Indexes.{Readable}
use Rattle.vrf_store.proofs.Laws.Check.Valid.{valid-fits}

module _ {s : Store} (v : Valid s) where
  -- ---- a row and its text

  pub guid-row : {r : List ℕ} {i : ℕ} → r ≡ s.guid_rows → i < s.header.guids → 24 * i + 24 ≤ length r
  guid-row er h = omega (arith, ap length er)

  pub group-row : {r : List ℕ} {i : ℕ} → r ≡ s.group_rows → i < s.header.groups → 24 * i + 24 ≤ length r
  group-row er h = omega (arith, ap length er)

  pub field_row : {r : List ℕ} {i : ℕ} → r ≡ s.field_rows → i < s.header.fields → 24 * i + 24 ≤ length r
  field_row er h = omega (arith, ap length er)

  texts-in : {r x heads : List ℕ} {b n : ℕ} → ValidTable s.header.used s.texts r heads b n → x ≡ s.texts → RowTexts r x n
  texts-in t ex i h = omega (arith, (t.texts i h).within, valid-fits v, ap length ex)

  pub guid-text : {r x : List ℕ} {i : ℕ} → r ≡ s.guid_rows → x ≡ s.texts → i < s.header.guids → at r i + len r i ≤ length x
  guid-text er ex h = rw er (texts-in v.guid_table ex _ h)

  pub group-text : {r x : List ℕ} {i : ℕ} → r ≡ s.group_rows → x ≡ s.texts → i < s.header.groups → at r i + len r i ≤ length x
  group-text er ex h = rw er (texts-in v.group_table ex _ h)

  pub field-text : {r x : List ℕ} {i : ℕ} → r ≡ s.field_rows → x ≡ s.texts → i < s.header.fields → at r i + len r i ≤ length x
  field-text er ex h = rw er (texts-in v.field_table ex _ h)

  -- ---- the indexes of the groups

  module _ {r x : List ℕ} {n : ℕ} (er : r ≡ s.group_rows) (ex : x ≡ s.texts) (en : n ≡ s.header.groups) where
    group-texts : RowTexts r x n
    group-texts i h = group-text er ex (omega arith)

    pub path-walk : {b : ℕ} → b ≡ Layout.path_buckets s.header.allowed → {links heads : List ℕ} {k : ℕ} → links ≡ s.path_links → heads ≡ s.path_heads → k < 2 ^ 31 → (24 * n ≤ length r) × (12 * n ≤ length links) × (4 * b ≤ length heads) × (0 < b) × (n ≤ 100000) × RowTexts r x n × (k < 2 ^ 31)
    path-walk eb el eh h = let lr = ap length er in let ll = ap length el in let lh = ap length eh in (omega arith, omega arith, omega arith, omega arith, omega arith, group-texts, h)

pub readable : {m : List ℕ} → WellFormed m → Readable m (header_of m).groups
readable w = record { enough = w.enough; few = omega (arith, w.valid.header); low = w.valid.header.groups; texts = group-texts w.valid refl refl refl }
