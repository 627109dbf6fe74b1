-- `vrf_words::put_few` satisfies its contract: after each piece, all bytes up to the end of that piece are written.
use Rattle.std.proofs.Common.{arith}
use Rattle.vrf_words.proofs.Copies.{copy_start, copy_step, copy-end}
use Rattle.vrf_words.proofs.put_few.Goals as goal

pub returns-then-n-gt3 : goal.returns-then-n-gt3
returns-then-n-gt3 c =
    let one = copy_step (copy_start _ _ c.args.at) 0 4 c.put_piece.ensures (omega arith) (omega arith) (omega arith) (omega arith) in
    copy-end (copy_step one _ 4 c.put_piece-then-n-gt3.ensures (omega arith) (omega arith) (omega arith) (omega arith)) (omega arith)

pub returns-then-n-gt1 : goal.returns-then-n-gt1
returns-then-n-gt1 c =
    let one = copy_step (copy_start _ _ c.args.at) 0 2 c.put_piece-then-n-gt1.ensures (omega arith) (omega arith) (omega arith) (omega arith) in
    copy-end (copy_step one _ 2 c.put_piece-then-n-gt1-2.ensures (omega arith) (omega arith) (omega arith) (omega arith)) (omega arith)

pub returns-then-n-gt0 : goal.returns-then-n-gt0
returns-then-n-gt0 c = copy-end (copy_step (copy_start _ _ c.args.at) 0 1 c.put_piece-then-n-gt0.ensures (omega arith) (omega arith) (omega arith) (omega arith)) (omega arith)

pub returns-else-n-gt0 : goal.returns-else-n-gt0
returns-else-n-gt0 c = copy-end (copy_start _ _ c.args.at) (omega arith)
