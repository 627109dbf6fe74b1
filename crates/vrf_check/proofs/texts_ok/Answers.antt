-- The tests in turn are the conjunction.
use Rattle.std.proofs.Common.{arith}
use Rattle.std.proofs.lemmas.Grind.{common_steps}
use Rattle.std.proofs.lemmas.Bool.Decides.{nat_tests}
use Rattle.vrf_check.specs.Inner.Steps.{texts_ok}
use Rattle.vrf_check.proofs.texts_ok.Goals as goal

pub returns-then-each_text_ok-2 : goal.returns-then-each_text_ok-2
unfolding texts_ok
returns-then-each_text_ok-2 c = grind (arith, nat_tests, common_steps)

pub returns-else-each_text_ok-2 : goal.returns-else-each_text_ok-2
unfolding texts_ok
returns-else-each_text_ok-2 c = grind (arith, nat_tests, common_steps)
