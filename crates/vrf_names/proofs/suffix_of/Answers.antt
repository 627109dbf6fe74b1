-- `vrf_names::suffix_of` satisfies its contract.
use mathlib.Core.Path.{◌≡◌, sym, ap, ◌∙◌}
use Prim.Native.Nat.{suc, ◌-◌}
use native.Mathlib.Omega.{arith}
use lib.IntN.{pos}
use Rattle.vrf_bitio.proofs.Laws.Signed.{is_zero, below-zero, above_zero}
use Rattle.vrf_names.specs.Names.{suffix}
use Rattle.vrf_names.proofs.suffix_of.Goals as goal

pub returns-then-number-lt0 : goal.returns-then-number-lt0
unfolding suffix
returns-then-number-lt0 c =
    let m = below-zero _ c.ranges.number c.unsigned_abs.ensures.value c.if-number-lt0.true in
    let one : suc (c.unsigned_abs.result - 1) ≡ c.unsigned_abs.result = omega arith in
    rw (m.1, one)

pub returns-then-number-eq0 : goal.returns-then-number-eq0
unfolding suffix
returns-then-number-eq0 c = rw (is_zero _ c.ranges.number c.if-number-eq0.true)

pub returns : goal.returns
unfolding suffix
returns c =
    let m = above_zero _ c.ranges.number c.unsigned_abs-2.ensures.value c.if-number-lt0.false c.if-number-eq0.false in
    let one : c.unsigned_abs-2.result ≡ suc (c.unsigned_abs-2.result - 1) = omega (arith, m.0) in
    sym (ap suffix (m.1 ∙ ap pos one))
