-- Each side of the test.
use Rattle.std.proofs.Common.{sym, arith}
use Rattle.vrf_writer.proofs.Laws.Lengths.{below, from}
use Rattle.vrf_writer.proofs.size.one_from.Goals as goal

pub returns-then-n-least : goal.returns-then-n-least
returns-then-n-least c = (sym (below c.args.least c.args.n (omega arith)), omega arith)

pub returns-else-n-least : goal.returns-else-n-least
returns-else-n-least c = (sym (from c.args.least c.args.n (omega arith)), omega arith)
