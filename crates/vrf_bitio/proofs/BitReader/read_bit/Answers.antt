-- `vrf_bitio::BitReader::read_bit` satisfies its contract: the bit is taken from its byte.
use Rattle.std.proofs.Common.{arith}
use Rattle.std.proofs.lemmas.Result.{err_from_is_err_and}
use Rattle.vrf_bitio.proofs.Readers.{bits-lacking, bits-found, gave-moved, flag}
use Rattle.vrf_bitio.proofs.BitReader.read_bit.Goals as goal

pub returns-in_err-at : goal.returns-in_err-at
returns-in_err-at c =
    let t = c.in_err-at.ensures in
    let p = err_from_is_err_and c.from_residual.result c.from_residual.ensures.1 in
    rw (p.1, p.2) (rw t.1.0 (bits-lacking c.args.self.now _ (omega arith) (omega arith)), t.1.1)

pub returns : goal.returns
returns c =
    let t = c.in_ok-at.ensures in
    gave-moved c.args.self.now _ t.1.1 (bits-found c.args.self.now _ (omega arith) (omega arith) (flag _ _ _ _ (rw t.1.1 at c.byte_or_zero.ensures.0) t.1.0))
