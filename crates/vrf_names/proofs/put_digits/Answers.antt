-- `vrf_names::put_digits` satisfies its contract: writing the rest of the number leaves what writing the whole number leaves.
use Rattle.std.proofs.Common.{arith, sym, ap, ◌∙◌}
use Rattle.vrf_bitio.specs.Pasted.{pasted}
use Rattle.vrf_names.proofs.Names.{all-digits, digit-next, digits-end}
use Rattle.vrf_names.proofs.put_digits.Goals as goal

pub loop-i-init : goal.loop-i-init
loop-i-init c = ap (pasted c.args.out.now c.args.at) (sym (all-digits _ c.args.n (omega (arith, c.decimal_len.ensures.0))))

pub loop-i-preserved : goal.loop-i-preserved
loop-i-preserved c = c.loop-i.invariant ∙ digit-next c.loop-i.out _ _ _ c.loop-i-test.true (omega (arith, c.loop-i.auto.out, c.decimal_len.ensures.0))

pub returns : goal.returns
returns c = sym (c.loop-i.invariant ∙ digits-end c.loop-i.out _ _ c.loop-i.rest (omega arith))
