-- The parts of a block add up to its length, which fits 64 bits.
use Rattle.std.proofs.Common.{arith}
use Rattle.vrf_writer.proofs.Laws.Size.{block-bytes, block-short}
use Rattle.vrf_writer.proofs.size.block_len.Goals as goal

pub overflow_add-result : goal.overflow_add-result
overflow_add-result c = omega (arith, block-bytes c.requires.valid, block-short c.requires.valid)

pub overflow_add-result-2 : goal.overflow_add-result-2
overflow_add-result-2 c = omega (arith, block-bytes c.requires.valid, block-short c.requires.valid)

pub overflow_add-result-3 : goal.overflow_add-result-3
overflow_add-result-3 c = omega (arith, block-bytes c.requires.valid, block-short c.requires.valid)

pub returns : goal.returns
returns c = omega (arith, block-bytes c.requires.valid)
