-- One more byte from each power of 128 on.
use Rattle.std.proofs.Common.{arith}
use Rattle.vrf_writer.proofs.Laws.Lengths.{packed-sum}
use Rattle.vrf_writer.proofs.size.packed_len.Goals as goal

pub returns : goal.returns
returns c = omega (arith, packed-sum c.args.n)
