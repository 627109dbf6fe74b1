-- `vrf_bitio::low_bits` satisfies its contract: the two shifts leave the low w bits.
use Rattle.vrf_bitio.proofs.Words.{low}
use Rattle.vrf_bitio.proofs.low_bits.Goals as goal

pub returns : goal.returns
returns c = low _ _ c.requires.1
