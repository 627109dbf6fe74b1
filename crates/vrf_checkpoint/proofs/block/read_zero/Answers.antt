-- `vrf_checkpoint::block::read_zero` satisfies its contract: a word, which is 0.
use Rattle.std.proofs.Common.{arith}
use Rattle.vrf_checkpoint.proofs.Laws.Ends.{err-passed}
use Rattle.vrf_checkpoint.proofs.Laws.Block.{zero-set, zero-read, zero-refused}
use Rattle.vrf_checkpoint.proofs.block.read_zero.Goals as goal

pub returns-in_err-w : goal.returns-in_err-w
returns-in_err-w c = rw (err-passed _ _ c.from_residual.ensures.1) (zero-refused _ c.in_err-w.ensures.0 c.args.at)

pub returns-then-w-ne0 : goal.returns-then-w-ne0
returns-then-w-ne0 c = zero-set c.in_ok-w.ensures c.args.at (omega arith)

pub returns : goal.returns
returns c = zero-read c.in_ok-w.ensures c.args.at (omega arith)
