-- `vrf_store::groups::push_path` satisfies its contract: the law `path-written` gives the memory after its write.
use Rattle.vrf_store.proofs.Laws.Groups.Memory.{path-written}
use Rattle.vrf_store.proofs.groups.push_path.Goals as goal

pub returns : goal.returns
returns c = path-written _ _ _ _ _ _ c.guids_allowed-g.ensures.0 c.groups_allowed-r.ensures.0 c.requires c.push_entry.ensures
