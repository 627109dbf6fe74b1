use Rattle.std.proofs.Common.{◌-◌, ◌<◌, ◌≡◌, length, drop}
use Rattle.vrf_path.specs.Keys.{has_separator}
use Rattle.vrf_path.proofs.many_separators.Given as goal

abbrev pub invariant-loop-i : goal.invariant-loop-i
invariant-loop-i l = (l.n ≡ length l.text) × (l.i < l.n) × (has_separator l.text ≡ has_separator (drop l.i l.text))

abbrev pub decreases-loop-i : goal.decreases-loop-i
decreases-loop-i l = l.n - l.i
