-- The stem cut at the last `_`, if it is above place 0.
use Rattle.std.proofs.Common.{sym, arith}
use Rattle.vrf_path.proofs.StemSteps.{cut, cut-none, cut-first, renamed}
use Rattle.vrf_path.proofs.cut_stem.Goals as goal

pub returns-in-None : goal.returns-in-None
returns-in-None c = renamed (cut-none _ _ (sym c.in-None.ensures)) c.digit_stem.ensures

pub returns-in-Some-eq0 : goal.returns-in-Some-eq0
returns-in-Some-eq0 c = renamed (cut-first _ _ (sym c.in-Some-eq0.ensures) (omega arith)) c.digit_stem-in-Some-eq0.ensures

pub returns-in-Some : goal.returns-in-Some
returns-in-Some c = cut _ _ (sym c.in-Some.ensures) c.requires (omega arith)
