-- The search from place i on has the result of the whole search.
use Rattle.std.proofs.Common.{◌≡◌, sym, ◌∙◌, false, drop, arith}
use Rattle.vrf_path.specs.Text.{starts_with}
use Rattle.vrf_path.proofs.Laws.Text.{starts_other, first-here, first-later, first-nowhere}
use Rattle.vrf_path.proofs.Texts.{starts-at}
use Rattle.vrf_path.proofs.find.Goals as goal
use Rattle.vrf_path.proofs.find.Goals.{else-b-first-via-then-b-first+else-starts_with, else-b-first-via-else-b-first}

pub returns-then-starts_with : goal.returns-then-starts_with
returns-then-starts_with c =
    let l = c.loop-i in
    sym (l.invariant ∙ first-here _ _ l.i (omega arith) (starts-at _ _ l.i c.starts_with.ensures c.if-starts_with.true))

pub loop-i-preserved : goal.loop-i-preserved
loop-i-preserved c =
    let l = c.loop-i in
    let x = c.args in
    let not-here : starts_with x.p.now (drop l.i x.text.now) ≡ false =
    elim c.else-b-first.branch [
      | else-b-first-via-then-b-first+else-starts_with w ↦ starts-at x.p.now x.text.now l.i w.starts_with.ensures w.if-starts_with.false
      | else-b-first-via-else-b-first w ↦ starts_other x.p.now x.text.now l.i (omega arith) (omega arith) w.if-b-first.false
    ]
    in
    l.invariant ∙ first-later x.p.now x.text.now l.i (omega arith) not-here

pub returns : goal.returns
returns c = sym (c.loop-i.invariant ∙ first-nowhere _ _ c.loop-i.i c.loop-i-test.false)
