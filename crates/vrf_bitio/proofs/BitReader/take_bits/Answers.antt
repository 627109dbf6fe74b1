-- `vrf_bitio::BitReader::take_bits` satisfies its contract.
use Rattle.vrf_bitio.proofs.Laws.Bits.{bits-lt}
use Rattle.vrf_bitio.proofs.BitReader.take_bits.Goals as goal

pub returns : goal.returns
returns c =
    let t = c.in_ok-at.ensures in
    let v = rw (t.1.1, t.1.0) at c.bits_within.ensures in
    (t.0, (v, (rw v (bits-lt _ _ _), t.1.1)))
