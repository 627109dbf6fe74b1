-- `vrf_checkpoint::groups::read_groups` satisfies its contract: the loop's invariant is `SumLeft`.
use Rattle.std.proofs.Common.{arith}
use Rattle.vrf_checkpoint.proofs.Laws.Ends.{err-passed}
use Rattle.vrf_checkpoint.proofs.Laws.Sums.{none_read, one-read, one-refused, all_read}
use Rattle.vrf_checkpoint.proofs.groups.read_groups.Goals as goal

pub loop-init : goal.loop-init
loop-init c = record { sum = none_read c.requires.0; few = omega arith }

pub returns-in_err-fields-clause-reads : goal.returns-in_err-fields-clause-reads
returns-in_err-fields-clause-reads c =
    rw (err-passed _ _ c.from_residual.ensures.1) (one-refused c.loop.invariant.sum c.loop-test.true _ c.in_err-fields.ensures.reads)

pub loop-preserved : goal.loop-preserved
loop-preserved c = record {
  sum = one-read c.loop.invariant.sum c.loop-test.true _ c.in_ok-fields.ensures.reads;
  few = omega (arith, c.in_ok-fields.ensures.few);
}

pub returns-clause-reads : goal.returns-clause-reads
returns-clause-reads c = all_read c.loop.invariant.sum c.loop-test.false
