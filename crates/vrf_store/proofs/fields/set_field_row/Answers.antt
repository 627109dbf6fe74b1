-- `vrf_store::fields::set_field_row` satisfies its contract: the law `set-field-row` gives the memory after its writes. The bytes held
-- include the old name.
use Rattle.vrf_store.proofs.Laws.Fields.Changes.{len-held}
use Rattle.vrf_store.proofs.Laws.Fields.Memory.{set-field-row}
use Rattle.vrf_store.proofs.fields.set_field_row.Goals as goal

pub overflow_sub-total : goal.overflow_sub-total
overflow_sub-total c =
    rw (c.held.ensures, c.text_len.ensures, c.field_rows.ensures) (len-held c.requires.0.valid c.args.e c.requires.1.row)

pub returns : goal.returns
returns c =
    let row = c.put_text in
    set-field-row c.requires.0 _ _ _ _ c.requires.1 c.ranges.checksum.fits c.fields_allowed-cap.ensures.0 c.fields_at-from.ensures
    (rw (c.held.ensures, c.text_len.ensures, c.field_rows.ensures))
    (record { long = row.auto.rows; made = row.ensures }) c.put32.ensures
