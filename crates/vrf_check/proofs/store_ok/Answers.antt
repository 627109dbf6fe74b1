-- The steps together are the check.
use Rattle.std.proofs.Common.{arith}
use Rattle.std.proofs.lemmas.Grind.{common_steps}
use Rattle.vrf_store.specs.Store.{store_of}
use Rattle.vrf_check.proofs.Laws.Steps.{steps_ok, store-steps}
use Rattle.vrf_check.proofs.store_ok.Goals as goal

pub returns-then-rows_ok : goal.returns-then-rows_ok
unfolding steps_ok
returns-then-rows_ok c = rw (store-steps (store_of c.args.m.now)) (grind (arith, common_steps))

pub returns-else-rows_ok : goal.returns-else-rows_ok
unfolding steps_ok
returns-else-rows_ok c = rw (store-steps (store_of c.args.m.now)) (grind (arith, common_steps))
