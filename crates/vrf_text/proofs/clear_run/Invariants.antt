use Rattle.std.proofs.Common.{◌-◌, ◌≤◌, length}
use Rattle.vrf_text.specs.Inner.Steps.{Clear}
use Rattle.vrf_text.proofs.clear_run.Given as goal

abbrev pub invariant-loop-i : goal.invariant-loop-i
invariant-loop-i l = (l.i ≤ length l.s) × Clear l.s l.b l.i

abbrev pub decreases-loop-i : goal.decreases-loop-i
decreases-loop-i l = length l.s - l.i
