use Rattle.std.proofs.Common.{◌-◌, ◌<◌, ◌≡◌, length, drop}
use Rattle.vrf_path.specs.Text.{same}
use Rattle.vrf_path.proofs.same_words.Given as goal

abbrev pub invariant-loop-i : goal.invariant-loop-i
invariant-loop-i l = (l.n ≡ length l.a) × (l.i < l.n) × (same l.a l.b ≡ same (drop l.i l.a) (drop l.i l.b))

abbrev pub decreases-loop-i : goal.decreases-loop-i
decreases-loop-i l = l.n - l.i
