-- `vrf_store::look::claim_of` satisfies its contract.
use Rattle.vrf_store.proofs.Laws.Memory.WellFormed.{readable}
use Rattle.vrf_store.proofs.Laws.Lookups.{first_found}
use Rattle.vrf_store.proofs.look.claim_of.Goals as goal

pub leaf_chains-requires : goal.leaf_chains-requires
leaf_chains-requires c = rw c.groups.ensures (readable c.requires.0)

pub returns : goal.returns
returns c = cc (first_found c.requires.0.valid c.requires.1 c.front_start-p.ensures c.leaf_start-q.ensures)
