-- `vrf_store::groups::push_group` satisfies its contract: it writes the row and two numbers, and adds the group to the indexes.
use Rattle.vrf_store.proofs.Laws.Groups.Changes.{push-written, push-indexable, push-stepped}
use Rattle.vrf_store.proofs.groups.push_group.Goals as goal

pub index_group-requires : goal.index_group-requires
index_group-requires c =
    let written = push-written _ _ _ _ _ c.requires c.ranges.index.fits c.groups-n.ensures c.held.ensures c.put_group.ensures c.put32.ensures c.put32-2.ensures in
    push-indexable _ _ _ _ _ c.requires c.ranges.index.fits c.groups-n.ensures written

pub returns : goal.returns
returns c =
    let written = push-written _ _ _ _ _ c.requires c.ranges.index.fits c.groups-n.ensures c.held.ensures c.put_group.ensures c.put32.ensures c.put32-2.ensures in
    push-stepped _ _ _ _ _ c.requires c.ranges.index.fits c.groups-n.ensures written c.index_group.ensures
