-- The tests in turn are the conjunction, over the rows, heads and counts of the store.
use Rattle.std.proofs.Common.{arith}
use Rattle.std.proofs.lemmas.Grind.{common_steps}
use Rattle.vrf_check.specs.Inner.Steps.{guids_ok, groups_ok, rows_ok}
use Rattle.vrf_check.proofs.rows_ok.Goals as goal

pub returns-then-each_row_ok-2 : goal.returns-then-each_row_ok-2
unfolding rows_ok guids_ok groups_ok
returns-then-each_row_ok-2 c = grind (arith, common_steps)

pub returns-else-each_row_ok-2 : goal.returns-else-each_row_ok-2
unfolding rows_ok guids_ok groups_ok
returns-else-each_row_ok-2 c = grind (arith, common_steps)
