-- `vrf_bitio::BitReader::copy_bits_to` satisfies its contract: its tests are those of `copied`.
use Rattle.std.proofs.Common.{arith, refl}
use Rattle.std.proofs.lemmas.Result.{err_from_is_err_and}
use Rattle.vrf_bitio.proofs.Readers.{copy-short, copy-lacking, copy-found, gave-moved}
use Rattle.vrf_bitio.proofs.BitReader.copy_bits_to.Goals as goal

pub returns-then-space-div_ceil : goal.returns-then-space-div_ceil
returns-then-space-div_ceil c = (copy-short c.args.self.now _ _ (omega arith), (refl, refl))

pub returns-in_err-at : goal.returns-in_err-at
returns-in_err-at c =
    let t = c.in_err-at.ensures in
    let p = err_from_is_err_and c.from_residual.result c.from_residual.ensures.1 in
    rw (p.1, p.2) (rw t.1.0 (copy-lacking c.args.self.now _ _ (omega arith) (omega arith)), (t.1.1, refl))

pub returns : goal.returns
returns c =
    let t = c.in_ok-at.ensures in
    (_, (gave-moved c.args.self.now _ t.1.1 (copy-found c.args.self.now _ _ (omega arith) t.0), rw (t.1.1, t.1.0) at c.copy_bits.ensures))
