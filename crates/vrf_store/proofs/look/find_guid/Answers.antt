-- `vrf_store::look::find_guid` satisfies its contract.
use Rattle.vrf_store.proofs.Laws.Lookups.{guid-found}
use Rattle.vrf_store.proofs.look.find_guid.Goals as goal

pub returns : goal.returns
returns c = cc (guid-found c.requires.valid c.args.guid)
