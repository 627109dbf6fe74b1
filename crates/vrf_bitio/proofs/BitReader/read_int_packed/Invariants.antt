-- After k bytes, reading the rest yields what reading the whole number yields. The reader itself moves only after the last byte.
use Rattle.std.specs.Prelude.{◌≡◌}
use Rattle.vrf_bitio.proofs.Packed.{SoFar}
use Rattle.vrf_bitio.proofs.BitReader.read_int_packed.Given as goal

abbrev pub invariant-loop-k : goal.invariant-loop-k
invariant-loop-k l = (l.self ≡ l.fn.self) × SoFar l.fn.self l.at l.low l.k
