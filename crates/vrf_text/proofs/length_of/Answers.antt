-- `vrf_text::length_of` satisfies its contract.
use Rattle.vrf_bitio.proofs.Laws.Signed.{is_zero, below-zero, above_zero}
use Rattle.vrf_text.proofs.length_of.Goals as goal

pub returns-then-n-lt0 : goal.returns-then-n-lt0
returns-then-n-lt0 c =
    let m = below-zero _ c.ranges.n c.unsigned_abs.ensures.value c.if-n-lt0.true in
    (m.1, m.0)

pub returns-then-n-eq0 : goal.returns-then-n-eq0
returns-then-n-eq0 c = is_zero _ c.ranges.n c.if-n-eq0.true

pub returns : goal.returns
returns c =
    let m = above_zero _ c.ranges.n c.unsigned_abs-2.ensures.value c.if-n-lt0.false c.if-n-eq0.false in
    (m.1, m.0)
