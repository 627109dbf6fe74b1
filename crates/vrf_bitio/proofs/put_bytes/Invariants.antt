-- After k bytes, writing the rest leaves what writing the whole leaves.
use Rattle.vrf_bitio.proofs.Copies.{Putting}
use Rattle.vrf_bitio.proofs.put_bytes.Given as goal

abbrev pub invariant-loop-k : goal.invariant-loop-k
invariant-loop-k l = Putting l.initial.dst l.dst l.at l.v l.t l.k l.left
