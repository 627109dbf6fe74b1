-- The tests in turn are the conjunction.
use Rattle.std.proofs.Common.{arith}
use Rattle.std.proofs.lemmas.Grind.{common_steps}
use Rattle.std.proofs.lemmas.Bool.Decides.{nat_tests}
use Rattle.vrf_store.specs.Check.{header_ok}
use Rattle.vrf_check.proofs.header_ok.Goals as goal

pub returns-then-used-text_allowed : goal.returns-then-used-text_allowed
unfolding header_ok
returns-then-used-text_allowed c = grind (arith, nat_tests, common_steps)

pub returns-else-used-text_allowed : goal.returns-else-used-text_allowed
unfolding header_ok
returns-else-used-text_allowed c = grind (arith, nat_tests, common_steps)
