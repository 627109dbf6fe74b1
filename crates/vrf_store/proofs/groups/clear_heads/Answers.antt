-- `vrf_store::groups::clear_heads` satisfies its contract: the law `clear-all` gives the memory after its writes.
use Rattle.vrf_store.proofs.Laws.Groups.Rebuild.{clear-all}
use Rattle.vrf_store.proofs.groups.clear_heads.Goals as goal

pub returns : goal.returns
returns c =
    clear-all c.args.m.now c.guids_allowed-g.ensures.0 c.groups_allowed-r.ensures.0 c.requires c.zero_words.ensures c.zero_words-2.ensures c.zero_words-3.ensures
