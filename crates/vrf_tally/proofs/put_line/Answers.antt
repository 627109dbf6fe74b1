-- A line is written in four parts.
use Rattle.std.proofs.Common.{arith}
use Rattle.vrf_tally.proofs.Laws.Printed.{line-put}
use Rattle.vrf_tally.proofs.put_line.Goals as goal

pub returns : goal.returns
returns c = (omega arith, line-put c.args.name.now c.args.n c.args.at (omega arith) c.put_part.ensures c.put_decimal.ensures c.decimal_len.ensures.0)
