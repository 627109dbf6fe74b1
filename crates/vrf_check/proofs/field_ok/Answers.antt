-- The tests in turn are the conjunction.
use Rattle.std.proofs.Common.{arith}
use Rattle.std.proofs.lemmas.Grind.{common_steps}
use Rattle.vrf_check.proofs.field_ok.Goals as goal

pub returns-then-slot_ok : goal.returns-then-slot_ok
returns-then-slot_ok c = grind (arith, common_steps)

pub returns-else-slot_ok : goal.returns-else-slot_ok
returns-else-slot_ok c = grind (arith, common_steps)
