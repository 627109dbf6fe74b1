-- `vrf_store::look::find_index` satisfies its contract.
use Rattle.vrf_store.proofs.Laws.Lookups.{index-found}
use Rattle.vrf_store.proofs.look.find_index.Goals as goal

pub returns : goal.returns
returns c = cc (index-found c.requires.valid c.args.index)
