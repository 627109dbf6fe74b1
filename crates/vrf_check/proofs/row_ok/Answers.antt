-- The tests in turn are the conjunction.
use Rattle.std.proofs.Common.{arith}
use Rattle.std.proofs.lemmas.Grind.{common_steps}
use Rattle.std.proofs.lemmas.Bool.Decides.{nat_tests}
use Rattle.vrf_store.specs.Check.{is32}
use Rattle.vrf_check.specs.Inner.Steps.{row_ok}
use Rattle.vrf_check.proofs.row_ok.Goals as goal

pub returns-then-row_info-most : goal.returns-then-row_info-most
unfolding row_ok is32
returns-then-row_info-most c = grind (arith, nat_tests, common_steps)

pub returns-else-row_info-most : goal.returns-else-row_info-most
unfolding row_ok is32
returns-else-row_info-most c = grind (arith, nat_tests, common_steps)
