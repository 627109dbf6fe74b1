use Rattle.std.proofs.Common.{◌-◌, ◌≡◌, length, drop}
use Rattle.vrf_text.specs.Utf8.{utf8}
use Rattle.vrf_text.proofs.is_utf8.Given as goal

abbrev pub invariant-loop-i : goal.invariant-loop-i
invariant-loop-i l = utf8 (drop l.i l.t) ≡ utf8 l.t

abbrev pub decreases-loop-i : goal.decreases-loop-i
decreases-loop-i l = length l.t - l.i
