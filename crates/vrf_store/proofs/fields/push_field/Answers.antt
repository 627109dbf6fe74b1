-- `vrf_store::fields::push_field` satisfies its contract: the law `push-field` gives the memory after its writes.
use Rattle.vrf_store.proofs.Laws.Fields.Memory.{push-field}
use Rattle.vrf_store.proofs.fields.push_field.Goals as goal

pub returns : goal.returns
returns c =
    let row = c.push_row in
    push-field c.requires.0 (λ i. (c.slice_known-1.given i).fits) _ _ _ _ _ c.requires.1 c.ranges.checksum.fits
    c.fields_allowed-cap.ensures.0 c.fields_at-from.ensures c.fields-n.ensures c.held.ensures
    (record { long = row.auto.t; made = row.ensures }) c.put32.ensures c.put32-2.ensures
