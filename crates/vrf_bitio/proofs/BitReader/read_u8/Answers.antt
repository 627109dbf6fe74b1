-- `vrf_bitio::BitReader::read_u8` satisfies its contract: the eight bits at the position are the next byte left there.
use Rattle.std.proofs.Common.{arith}
use Rattle.std.proofs.lemmas.Result.{err_from_is_err_and}
use Rattle.vrf_bitio.proofs.Laws.Window.{byte-lacks, byte-found}
use Rattle.vrf_bitio.proofs.Readers.{gave-moved}
use Rattle.vrf_bitio.proofs.BitReader.read_u8.Goals as goal

pub returns-in_err-take_bits : goal.returns-in_err-take_bits
returns-in_err-take_bits c =
    let t = c.in_err-take_bits.ensures in
    let p = err_from_is_err_and c.from_residual.result c.from_residual.ensures.1 in
    rw (p.1, p.2) (rw t.1.0 (byte-lacks _ _ _ _ (omega arith)), t.1.1)

pub returns : goal.returns
returns c =
    let t = c.in_ok-take_bits.ensures in
    gave-moved c.args.self.now _ t.1.1.1 (rw t.1.0 (byte-found _ _ _ _ (omega arith)))
