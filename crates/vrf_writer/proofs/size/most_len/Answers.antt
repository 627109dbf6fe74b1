-- The upper bound fits 64 bits.
use Rattle.std.proofs.Common.{arith}
use Rattle.vrf_writer.proofs.Laws.Size.{block-most, most-short}
use Rattle.vrf_writer.proofs.size.most_len.Goals as goal

pub overflow_add-result-3 : goal.overflow_add-result-3
overflow_add-result-3 c = omega (arith, most-short c.requires.valid)

pub returns : goal.returns
returns c = omega (arith, block-most c.requires.valid)
