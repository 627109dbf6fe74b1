-- `vrf_store::look::find_field` satisfies its contract.
use Rattle.vrf_store.specs.Store.{slot_key}
use Rattle.vrf_store.proofs.look.find_field.Goals as goal

pub returns : goal.returns
unfolding slot_key
returns c = cc
