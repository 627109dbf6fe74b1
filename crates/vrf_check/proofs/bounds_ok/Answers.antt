-- The tests in turn are the conjunction.
use Rattle.std.proofs.Common.{arith}
use Rattle.std.proofs.lemmas.Grind.{common_steps}
use Rattle.std.proofs.lemmas.Bool.Decides.{nat_tests}
use Rattle.vrf_store.specs.Check.{bounds_ok}
use Rattle.vrf_check.proofs.bounds_ok.Goals as goal

pub returns-then-need-m : goal.returns-then-need-m
unfolding bounds_ok
returns-then-need-m c = grind (arith, nat_tests, common_steps)

pub returns-else-need-m : goal.returns-else-need-m
unfolding bounds_ok
returns-else-need-m c = grind (arith, nat_tests, common_steps)
