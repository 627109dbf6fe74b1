-- `vrf_checkpoint::block::read_end` satisfies its contract: the byte at the position is W + 8.
use Rattle.std.proofs.Common.{arith}
use Rattle.vrf_checkpoint.proofs.Laws.Block.{end-missed, end-met}
use Rattle.vrf_checkpoint.proofs.block.read_end.Goals as goal

pub returns-then-end-expected : goal.returns-then-end-expected
returns-then-end-expected c =
    rw c.position-end.ensures (end-missed c.args.reader.now c.args.w (omega (arith, c.position-end.ensures)))

pub returns : goal.returns
returns c = rw c.position-end.ensures (end-met c.args.reader.now c.args.w (omega (arith, c.position-end.ensures)))
