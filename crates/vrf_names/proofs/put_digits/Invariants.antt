use Rattle.std.proofs.Common.{◌≡◌, ◌-◌}
use Rattle.vrf_bitio.specs.Pasted.{pasted}
use Rattle.vrf_names.specs.Names.{decimal}
use Rattle.vrf_names.proofs.Names.{last_digits}
use Rattle.vrf_names.proofs.put_digits.Given as goal

-- the digits at the places before i are those of `rest`
abbrev pub invariant-loop-i : goal.invariant-loop-i
invariant-loop-i l = pasted l.fn.out l.at (decimal l.n) ≡ pasted l.out l.at (last_digits (l.i - l.at) l.rest)
