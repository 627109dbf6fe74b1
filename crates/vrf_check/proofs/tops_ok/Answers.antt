-- The tests in turn are the conjunction.
use Rattle.std.proofs.Common.{arith}
use Rattle.std.proofs.lemmas.Grind.{common_steps}
use Rattle.std.proofs.lemmas.Bool.Decides.{nat_tests}
use Rattle.vrf_store.specs.Check.{tops_ok}
use Rattle.vrf_check.proofs.tops_ok.Goals as goal

pub returns-then-text_allowed-le67108864 : goal.returns-then-text_allowed-le67108864
unfolding tops_ok
returns-then-text_allowed-le67108864 c = grind (arith, nat_tests, common_steps)

pub returns-else-text_allowed-le67108864 : goal.returns-else-text_allowed-le67108864
unfolding tops_ok
returns-else-text_allowed-le67108864 c = grind (arith, nat_tests, common_steps)
