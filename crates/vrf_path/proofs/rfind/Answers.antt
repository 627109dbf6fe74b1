-- The search below place i has the result of the search below n.
use Rattle.std.proofs.Common.{◌-◌, sym, ◌∙◌, arith}
use Rattle.vrf_path.proofs.Laws.Text.{last-here, last-earlier}
use Rattle.vrf_path.proofs.Texts.{last-ended}
use Rattle.vrf_path.proofs.rfind.Goals as goal

pub returns-then-text-i : goal.returns-then-text-i
returns-then-text-i c =
    let l = c.loop-i in
    sym (l.invariant ∙ last-here _ _ (l.i - 1) (omega arith) c.if-text-i.true)

pub loop-i-preserved : goal.loop-i-preserved
loop-i-preserved c =
    let l = c.loop-i in
    l.invariant ∙ last-earlier _ _ (l.i - 1) (omega arith) c.if-text-i.false

pub returns : goal.returns
returns c = sym (c.loop-i.invariant ∙ last-ended _ _ c.loop-i.i c.loop-i-test.false)
