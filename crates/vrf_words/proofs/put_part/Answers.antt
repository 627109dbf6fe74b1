-- `vrf_words::put_part` satisfies its contract: after each piece, all bytes up to the end of that piece are written.
use Rattle.std.proofs.Common.{arith}
use Rattle.vrf_words.proofs.Copies.{copy_start, copy_step, copy-end}
use Rattle.vrf_words.proofs.put_part.Goals as goal

pub returns-then-n-lt32 : goal.returns-then-n-lt32
returns-then-n-lt32 c =
    let one = copy_step (copy_start _ _ c.args.at) 0 8 c.put_piece.ensures (omega arith) (omega arith) (omega arith) (omega arith) in
    let two = copy_step one c.min.result 8 c.put_piece-then-n-lt32.ensures (omega arith) (omega arith) (omega arith) (omega arith) in
    let three = copy_step two c.min-then-n-lt32.result 8 c.put_piece-then-n-lt32-2.ensures (omega arith) (omega arith) (omega arith) (omega arith) in
    copy-end (copy_step three _ 8 c.put_piece-then-n-lt32-3.ensures (omega arith) (omega arith) (omega arith) (omega arith)) (omega arith)

pub returns-then-n-le96 : goal.returns-then-n-le96
returns-then-n-le96 c =
    let one = copy_step (copy_start _ _ c.args.at) 0 32 c.put_piece-then-n-le96.ensures (omega arith) (omega arith) (omega arith) (omega arith) in
    let two = copy_step one c.min-then-n-le96.result 32 c.put_piece-then-n-le96-2.ensures (omega arith) (omega arith) (omega arith) (omega arith) in
    copy-end (copy_step two _ 32 c.put_piece-then-n-le96-3.ensures (omega arith) (omega arith) (omega arith) (omega arith)) (omega arith)
