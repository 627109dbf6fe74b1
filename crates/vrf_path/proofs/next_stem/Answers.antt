-- The stems after a stem, by the rule that made it. There is no `_` past the end.
use Rattle.std.proofs.Common.{ap, ◌∙◌, arith}
use Rattle.vrf_path.specs.Answers.{stems_after}
use Rattle.vrf_path.proofs.StemSteps.{from_end, renamed}
use Rattle.vrf_path.proofs.next_stem.Goals as goal

pub returns-in-Underscore : goal.returns-in-Underscore
returns-in-Underscore c = renamed (ap (stems_after _ _) c.in-Underscore.is ∙ from_end c.args.name.now c.args.len) (rw c.min.ensures at c.cut_stem.ensures)

pub returns-in-Digits : goal.returns-in-Digits
returns-in-Digits c = renamed (ap (stems_after _ _) c.in-Digits.is) c.capital_stem.ensures

pub returns-in-Capital : goal.returns-in-Capital
returns-in-Capital c = record { stems = ap (stems_after _ _) c.in-Capital.is; within = omega arith; rule = tt }
