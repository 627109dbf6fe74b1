-- `vrf_bitio::BitReader::sub_reader` satisfies its contract: it tests that enough bits are left, and then opens a window.
use Rattle.std.proofs.Common.{arith, refl}
use Rattle.std.proofs.lemmas.Result.{err_from_is_err_and}
use Rattle.vrf_bitio.proofs.Readers.{inner-lacking, inner-refused, inner-found, gave-moved, window-start}
use Rattle.vrf_bitio.proofs.BitReader.sub_reader.Goals as goal

pub returns-in_err-at : goal.returns-in_err-at
returns-in_err-at c =
    let t = c.in_err-at.ensures in
    let p = err_from_is_err_and c.from_residual.result c.from_residual.ensures.1 in
    rw (p.1, p.2) (rw t.1.0 (inner-lacking c.args.self.now _ (omega arith)), refl)

pub returns-in_err-within : goal.returns-in_err-within
returns-in_err-within c =
    let t = c.in_ok-at.ensures in
    let p = err_from_is_err_and c.from_residual-in_err-within.result c.from_residual-in_err-within.ensures.1 in
    rw (p.1, p.2) (inner-refused c.args.self.now _ t.0 (rw t.1.0 at c.in_err-within.ensures), refl)

pub returns : goal.returns
returns c =
    let t = c.in_ok-at.ensures in
    let opened = rw t.1.0 at c.in_ok-within.ensures in
    (gave-moved c.args.self.now _ t.1.1 (inner-found c.args.self.now _ t.0 opened.1), (window-start _ _ _ opened.1, opened.0))
