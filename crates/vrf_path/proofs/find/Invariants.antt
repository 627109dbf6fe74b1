-- The search from place i on has the result of the whole search.
use Rattle.std.proofs.Common.{◌≡◌, drop}
use Rattle.vrf_path.specs.Text.{first_from}
use Rattle.vrf_path.proofs.find.Given as goal

abbrev pub invariant-loop-i : goal.invariant-loop-i
invariant-loop-i l = first_from l.p 0 l.text ≡ first_from l.p l.i (drop l.i l.text)
