-- The search below place i has the result of the whole search.
use Rattle.std.proofs.Common.{◌≡◌, ◌+◌, ◌-◌, sym, ◌∙◌, arith}
use Rattle.vrf_path.specs.Stems.{is_digit}
use Rattle.vrf_path.proofs.Laws.Stems.{digits-end, digits-earlier, digits-all}
use Rattle.vrf_path.proofs.digits_from.Goals as goal

pub returns-then-not-is_ascii_digit : goal.returns-then-not-is_ascii_digit
unfolding is_digit
returns-then-not-is_ascii_digit c =
    let l = c.loop-i in
    let here : l.i - 1 + 1 ≡ l.i = omega arith in
    (rw here (sym (l.invariant ∙ digits-end _ (l.i - 1) (omega arith) (sym c.is_ascii_digit.ensures.value ∙ c.if-not-is_ascii_digit.true))), omega arith)

pub loop-i-preserved : goal.loop-i-preserved
unfolding is_digit
loop-i-preserved c =
    let l = c.loop-i in
    l.invariant ∙ digits-earlier _ (l.i - 1) (omega arith) (sym c.is_ascii_digit.ensures.value ∙ c.if-not-is_ascii_digit.false)

pub returns : goal.returns
returns c = (sym (c.loop-i.invariant ∙ digits-all _ c.loop-i.i c.loop-i-test.false), omega arith)
