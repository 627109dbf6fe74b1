-- After an iteration, one more chunk is written.
use Rattle.vrf_writer.proofs.Laws.Numbers.{Chunks}
use Rattle.vrf_writer.proofs.numbers.put_packed.Given as goal

abbrev pub invariant-loop-left : goal.invariant-loop-left
invariant-loop-left l = Chunks l.n l.initial.out l.out l.at l.left

abbrev pub decreases-loop-left : goal.decreases-loop-left
decreases-loop-left l = l.left
