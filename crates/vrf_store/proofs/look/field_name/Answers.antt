-- `vrf_store::look::field_name` satisfies its contract.
use Rattle.vrf_model.specs.Lookup.{slot_name}
use Rattle.vrf_store.specs.Store.{field_at}
use Rattle.vrf_store.proofs.Laws.Memory.WellFormed.{field_row, field-text}
use Rattle.vrf_store.proofs.Laws.Fields.Row.{slot-filled, slot-empty, slot-row-below}
use Rattle.vrf_store.proofs.look.field_name.Goals as goal

pub row_text-requires : goal.row_text-requires
row_text-requires c =
    let valid = c.requires.valid in
    let below = slot-row-below valid _ _ c.slot_row.ensures c.in-Some.is in
    (field_row valid c.field_rows.ensures below, field-text valid c.field_rows.ensures c.texts.ensures below)

pub returns-in-Some : goal.returns-in-Some
unfolding slot_name field_at
returns-in-Some c = rw (slot-filled c.requires.valid _ _ c.slot_row.ensures c.in-Some.is) cc

pub returns-in-None : goal.returns-in-None
unfolding slot_name
returns-in-None c = rw (slot-empty c.requires.valid _ _ c.slot_row.ensures c.in-None.is)
