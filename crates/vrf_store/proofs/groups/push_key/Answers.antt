-- `vrf_store::groups::push_key` satisfies its contract: the law `key-written` gives the memory after its write.
use Rattle.vrf_store.proofs.Laws.Groups.Memory.{key-written}
use Rattle.vrf_store.proofs.groups.push_key.Goals as goal

pub returns : goal.returns
returns c = key-written _ _ _ _ _ _ c.guids_allowed-g.ensures.0 c.groups_allowed-r.ensures.0 c.requires c.push_entry.ensures
