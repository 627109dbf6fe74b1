-- The tests in turn are the conjunction.
use Rattle.std.proofs.Common.{arith}
use Rattle.std.proofs.lemmas.Grind.{common_steps}
use Rattle.std.proofs.lemmas.Bool.Decides.{nat_tests}
use Rattle.vrf_check.specs.Inner.Steps.{slot_in}
use Rattle.vrf_check.proofs.slot_ok.Goals as goal

pub returns-then-g-groups : goal.returns-then-g-groups
unfolding slot_in
returns-then-g-groups c = grind (arith, nat_tests, common_steps)

pub returns-else-g-groups : goal.returns-else-g-groups
unfolding slot_in
returns-else-g-groups c = grind (arith, nat_tests, common_steps)
