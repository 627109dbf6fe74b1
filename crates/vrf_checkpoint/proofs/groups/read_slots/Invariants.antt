use Rattle.std.specs.Prelude.{◌≤◌}
use Rattle.vrf_model.specs.Block.{block_slot}
use Rattle.vrf_checkpoint.proofs.Laws.Sums.{SumLeft}
use Rattle.vrf_checkpoint.proofs.groups.read_slots.Given as goal

abbrev pub invariant-loop-slot : goal.invariant-loop-slot
invariant-loop-slot l = record {
  sum : SumLeft (block_slot l.index) l.slots l.fn.reader l.fn.m l.slot l.reader l.m l.filled;
  few : l.filled ≤ l.slot;
}
