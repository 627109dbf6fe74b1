-- `vrf_checkpoint::block::read_count` satisfies its contract: a word, which is at most `top`.
use Rattle.std.proofs.Common.{arith}
use Rattle.vrf_checkpoint.proofs.Laws.Ends.{err-passed}
use Rattle.vrf_checkpoint.proofs.Laws.Block.{count-over, count-read, count-refused}
use Rattle.vrf_checkpoint.proofs.block.read_count.Goals as goal

pub returns-in_err-n-clause-reads : goal.returns-in_err-n-clause-reads
returns-in_err-n-clause-reads c =
    rw (err-passed _ _ c.from_residual.ensures.1) (count-refused _ c.in_err-n.ensures.0 c.args.which c.args.top)

pub returns-then-top-n-clause-reads : goal.returns-then-top-n-clause-reads
returns-then-top-n-clause-reads c = count-over c.in_ok-n.ensures c.args.which c.args.top (omega arith)

pub returns-clause-reads : goal.returns-clause-reads
returns-clause-reads c = count-read c.in_ok-n.ensures c.args.which c.args.top (omega arith)
