-- `vrf_store::guids::push_guid` satisfies its contract: the law `push-guid` gives the memory after its writes.
use Rattle.vrf_store.proofs.Laws.Guids.{push-guid}
use Rattle.vrf_store.proofs.guids.push_guid.Goals as goal

pub returns : goal.returns
returns c =
    let args = c.args in
    let row = c.push_row in
    push-guid args.m.now args.guid args.span.at args.span.len args.outer c.requires (λ i. (c.slice_known-1.given i).fits) c.ranges.guid.fits c.ranges.outer.fits
    c.guids_allowed-cap.ensures.0 c.guids-n.ensures c.held.ensures
    (record { long = row.auto.t; made = row.ensures }) c.put32.ensures c.put32-2.ensures
