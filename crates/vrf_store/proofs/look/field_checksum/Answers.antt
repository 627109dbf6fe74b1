-- `vrf_store::look::field_checksum` satisfies its contract.
use Rattle.std.specs.Prelude.{None}
use Rattle.std.proofs.Common.{◌≡◌, arith}
use Rattle.vrf_model.specs.Lookup.{slot_checksum}
use Rattle.vrf_store.specs.Store.{field_at}
use Rattle.vrf_store.proofs.Laws.Memory.WellFormed.{field_row}
use Rattle.vrf_store.proofs.Laws.Fields.Row.{slot-filled, slot-empty, slot-row-below}
use Rattle.vrf_store.proofs.look.field_checksum.Goals as goal

pub row_info-requires : goal.row_info-requires
row_info-requires c =
    let valid = c.requires.valid in
    field_row valid c.field_rows.ensures (slot-row-below valid _ _ c.slot_row.ensures c.in_ok-e.was)

pub returns : goal.returns
unfolding slot_checksum field_at
returns c = rw (slot-filled c.requires.valid _ _ c.slot_row.ensures c.in_ok-e.was) cc

pub returns-in_err-e : goal.returns-in_err-e
unfolding slot_checksum
returns-in_err-e c =
    let gone : c.from_residual.result ≡ None = grind arith in
    rw (gone, slot-empty c.requires.valid _ _ c.slot_row.ensures c.in_err-e.was)
