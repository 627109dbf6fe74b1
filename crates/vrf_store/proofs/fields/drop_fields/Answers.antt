-- `vrf_store::fields::drop_fields` satisfies its contract: the law `drop-fields` gives the memory after its writes. The bytes held include
-- the names that are dropped.
use Rattle.std.proofs.Common.{arith}
use Rattle.vrf_store.proofs.Laws.Fields.Memory.{dropped-held, drop-fields}
use Rattle.vrf_store.proofs.fields.drop_fields.Goals as goal

pub overflow_sub-total : goal.overflow_sub-total
overflow_sub-total c =
    let within = dropped-held c.requires.0 _ c.requires.1 c.fields_allowed-cap.ensures.0 c.fields_at-from.ensures c.fields-n.ensures c.pass_rows-kept.auto.t c.pass_rows-kept.ensures in
    omega (arith, within, c.held-total.ensures)

pub returns : goal.returns
returns c =
    drop-fields c.requires.0 _ c.requires.1 c.fields_allowed-cap.ensures.0 c.fields_at-from.ensures c.fields-n.ensures c.pass_rows-kept.auto.t c.pass_rows-kept.ensures
    c.held-total.ensures c.put32.ensures c.put32-2.ensures
