-- `vrf_store::groups::push_leaf` satisfies its contract: the law `leaf-written` gives the memory after its write.
use Rattle.vrf_store.proofs.Laws.Groups.Memory.{leaf-written}
use Rattle.vrf_store.proofs.groups.push_leaf.Goals as goal

pub returns : goal.returns
returns c = leaf-written _ _ _ _ _ _ c.guids_allowed-g.ensures.0 c.groups_allowed-r.ensures.0 c.requires c.push_entry.ensures
