-- The tests in turn are the conjunction.
use Rattle.std.proofs.Common.{arith}
use Rattle.std.proofs.lemmas.Grind.{common_steps}
use Rattle.std.proofs.lemmas.Bool.Decides.{nat_tests}
use Rattle.vrf_store.specs.Check.{text_ok}
use Rattle.vrf_check.proofs.text_ok.Goals as goal

pub returns-then-n-le-TEXT_BYTES : goal.returns-then-n-le-TEXT_BYTES
unfolding text_ok
returns-then-n-le-TEXT_BYTES c = grind (arith, nat_tests, common_steps)

pub returns-else-n-le-TEXT_BYTES : goal.returns-else-n-le-TEXT_BYTES
unfolding text_ok
returns-else-n-le-TEXT_BYTES c = grind (arith, nat_tests, common_steps)
