-- The search below place i has the result of the search below n.
use Rattle.std.proofs.Common.{◌≡◌}
use Rattle.vrf_path.specs.Text.{last_below}
use Rattle.vrf_path.proofs.rfind.Given as goal

abbrev pub invariant-loop-i : goal.invariant-loop-i
invariant-loop-i l = last_below l.b l.text l.n ≡ last_below l.b l.text l.i
