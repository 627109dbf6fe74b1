-- `vrf_checkpoint::groups::read_slots` satisfies its contract: the loop's invariant is `SumLeft`.
use Rattle.std.proofs.Common.{arith}
use Rattle.vrf_checkpoint.proofs.Laws.Ends.{err-passed}
use Rattle.vrf_checkpoint.proofs.Laws.Sums.{none_read, one-read, one-refused, all_read}
use Rattle.vrf_checkpoint.proofs.groups.read_slots.Goals as goal

pub loop-slot-init : goal.loop-slot-init
loop-slot-init c = record { sum = none_read c.requires.0; few = omega arith }

pub returns-in_err-filled-clause-reads : goal.returns-in_err-filled-clause-reads
returns-in_err-filled-clause-reads c =
    rw (err-passed _ _ c.from_residual.ensures.1)
    (one-refused c.loop-slot.invariant.sum c.loop-slot-test.true _ c.in_err-filled.ensures.reads)

pub loop-slot-preserved : goal.loop-slot-preserved
loop-slot-preserved c = record {
  sum = one-read c.loop-slot.invariant.sum c.loop-slot-test.true _ c.in_ok-filled.ensures.reads;
  few = omega (arith, c.in_ok-filled.ensures.few);
}

pub returns-clause-reads : goal.returns-clause-reads
returns-clause-reads c = all_read c.loop-slot.invariant.sum c.loop-slot-test.false
