-- `vrf_store::groups::put_group` satisfies its contract: the law `row_written` gives the memory after its write.
use Rattle.vrf_store.proofs.Laws.Groups.Changes.{row_written}
use Rattle.vrf_store.proofs.groups.put_group.Goals as goal

pub returns : goal.returns
returns c =
    let x = c.args in
    let row = c.put_row in
    row_written x.e x.index x.span.at x.span.len x.slots c.guids_allowed.ensures.0 c.groups_allowed-cap.ensures.0 c.requires.0 c.requires.1 (record { long = row.auto.t; made = row.ensures })
