-- `vrf_path::digit_stem` satisfies its contract.
use mathlib.Core.Path.{sym, ap, ◌∙◌}
use native.Mathlib.Omega.{arith}
use Rattle.vrf_path.specs.Stems.{digit_stems}
use Rattle.vrf_path.proofs.Laws.Stems.{digit-empty, digit-some, digit-none, rule-digits}
use Rattle.vrf_path.proofs.digit_stem.Goals as goal

pub returns-then-n-eq0 : goal.returns-then-n-eq0
returns-then-n-eq0 c =
    let name = c.args.name.now in
    record { stems = ap (digit_stems name) (sym c.digits_from-n.ensures.0) ∙ digit-empty name _ c.if-n-eq0.true; within = omega arith; rule = tt }

pub returns-then-n-name : goal.returns-then-n-name
returns-then-n-name c =
    let name = c.args.name.now in
    let n = c.digits_from-n.ensures.0 in
    record {
      stems = ap (digit_stems name) (sym n) ∙ digit-some name _ (omega arith) c.if-n-name.true;
      within = omega arith;
      rule = rule-digits name _ n c.if-n-name.true;
    }

pub returns : goal.returns
returns c =
    let name = c.args.name.now in
    record { stems = ap (digit_stems name) (sym c.digits_from-n.ensures.0) ∙ digit-none name _ (omega arith) c.if-n-name.false; within = omega arith; rule = tt }
