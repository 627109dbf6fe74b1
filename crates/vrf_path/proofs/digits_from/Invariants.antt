-- The search below place i has the result of the whole search.
use Rattle.std.proofs.Common.{◌≡◌, length}
use Rattle.vrf_path.specs.Stems.{digits_from}
use Rattle.vrf_path.proofs.digits_from.Given as goal

abbrev pub invariant-loop-i : goal.invariant-loop-i
invariant-loop-i l = digits_from l.name (length l.name) ≡ digits_from l.name l.i
