-- In a valid store, the row of each GUID record is as `GuidRow` requires, and the row of each field as `TextRow` requires.
use Rattle.std.specs.Prelude.{◌≡◌, ℕ, ◌<◌, List}
use Rattle.vrf_store.specs.Store.{Store}
use Rattle.vrf_store.specs.Inner.Valid.{Valid}
use Rattle.vrf_store.proofs.Laws.Memory.WellFormed.{guid-row, guid-text, field_row, field-text}
use Rattle.vrf_writer.specs.Inner.Rows.{TextRow, GuidRow}

module _ {s : Store} (v : Valid s) {r x : List ℕ} (ex : x ≡ s.texts) where
  pub guid-good : r ≡ s.guid_rows → {i : ℕ} → i < s.header.guids → GuidRow r x i
  guid-good er {i} h = record {
    texts = record { row = guid-row v er h; inside = guid-text v er ex h; short = rw (er, ex) (v.guid_table.texts i h).is_text.short };
    small = rw er (v.guids i h).0;
  }

  pub field-good : r ≡ s.field_rows → {i : ℕ} → i < s.header.fields → TextRow r x i
  field-good er {i} h = record { row = field_row v er h; inside = field-text v er ex h; short = rw (er, ex) (v.field_table.texts i h).is_text.short }
