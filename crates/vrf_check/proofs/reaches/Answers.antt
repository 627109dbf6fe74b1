-- The walk finds the entry or a later one.
use Rattle.std.proofs.Common.{arith}
use Rattle.std.proofs.lemmas.Grind.{common_steps}
use Rattle.vrf_store.specs.Check.{not_before}
use Rattle.vrf_check.proofs.reaches.Goals as goal

pub returns : goal.returns
unfolding not_before
returns c = rw (← c.find.ensures) (grind (arith, common_steps))
