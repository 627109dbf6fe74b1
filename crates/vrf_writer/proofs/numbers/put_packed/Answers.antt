-- After an iteration, one more chunk is written.
use Rattle.std.proofs.Common.{arith}
use Rattle.vrf_writer.proofs.Laws.Numbers.{chunks_start, chunk-step, chunk_end, chunk-space}
use Rattle.vrf_writer.proofs.numbers.put_packed.Goals as goal

pub loop-left-init : goal.loop-left-init
loop-left-init c = chunks_start (omega arith) c.requires

pub bounds-out-at : goal.bounds-out-at
bounds-out-at c = chunk-space c.loop-left.invariant

pub loop-left-preserved : goal.loop-left-preserved
loop-left-preserved c = chunk-step c.loop-left.invariant (omega arith)

pub bounds-out-at-2 : goal.bounds-out-at-2
bounds-out-at-2 c = chunk-space c.loop-left.invariant

pub returns : goal.returns
returns c = chunk_end c.loop-left.invariant (omega arith)
