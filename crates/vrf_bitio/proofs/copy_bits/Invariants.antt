-- After k words the target begins with their bytes, and the next word is carried.
use Rattle.vrf_bitio.proofs.Copies.{Copying}
use Rattle.vrf_bitio.proofs.copy_bits.Given as goal

abbrev pub invariant-loop-k : goal.invariant-loop-k
invariant-loop-k l = Copying l.s l.initial.dst l.dst l.p l.carry l.k
