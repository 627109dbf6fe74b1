-- The stem without a capital, by its length and its last byte.
use Rattle.std.proofs.Common.{◌-◌, sym, ◌∙◌, arith}
use Rattle.vrf_path.specs.Stems.{is_capital}
use Rattle.vrf_path.proofs.Laws.Stems.{capital-short, capital-past, capital-at, rule-capital}
use Rattle.vrf_path.proofs.capital_stem.Goals as goal

pub returns-then-n-lt2 : goal.returns-then-n-lt2
returns-then-n-lt2 c = record { stems = capital-short _ _ c.if-n-lt2.true; within = omega arith; rule = tt }

pub returns-then-name-n : goal.returns-then-name-n
returns-then-name-n c = record { stems = capital-past _ _ c.if-name-n.true; within = omega arith; rule = tt }

pub returns-then-is_ascii_uppercase : goal.returns-then-is_ascii_uppercase
unfolding is_capital
returns-then-is_ascii_uppercase c =
    let capital = sym c.is_ascii_uppercase.ensures.value ∙ c.if-is_ascii_uppercase.true in
    record {
      stems = capital-at c.args.name.now (c.args.n - 1) (omega arith) (omega arith) ∙ rw capital;
      within = omega arith;
      rule = rule-capital c.args.name.now _ capital;
    }

pub returns : goal.returns
unfolding is_capital
returns c =
    let other = sym c.is_ascii_uppercase.ensures.value ∙ c.if-is_ascii_uppercase.false in
    record { stems = capital-at _ (c.args.n - 1) (omega arith) (omega arith) ∙ rw other; within = omega arith; rule = tt }
