-- `vrf_store::look::if_filled` satisfies its contract.
use Rattle.std.specs.Prelude.{None}
use Rattle.std.proofs.Common.{◌≡◌, arith}
use Rattle.vrf_model.specs.Lookup.{if_filled}
use Rattle.vrf_store.specs.Store.{field_at}
use Rattle.vrf_store.proofs.Laws.Fields.Row.{slot-filled, slot-empty}
use Rattle.vrf_store.proofs.look.if_filled.Goals as goal

pub returns : goal.returns
unfolding if_filled field_at
returns c = rw (slot-filled c.requires.valid _ _ c.slot_row.ensures c.in_ok-slot_row.was)

pub returns-in_err-slot_row : goal.returns-in_err-slot_row
unfolding if_filled
returns-in_err-slot_row c =
    let gone : c.from_residual.result ≡ None = grind arith in
    rw (gone, slot-empty c.requires.valid _ _ c.slot_row.ensures c.in_err-slot_row.was)
