-- `vrf_table::walk` satisfies its contract.
use Rattle.std.proofs.Common.{sym, ◌∙◌, arith}
use Rattle.vrf_table.proofs.Walks.{walk-ended, walk-beyond, walk-found, walk-on}
use Rattle.vrf_table.proofs.walk.Goals as goal
use Rattle.vrf_table.proofs.walk.Goals.{then-loop-p-test+else-p-limit, else-loop-p-test}

pub returns-then-hit : goal.returns-then-hit
returns-then-hit g c = λ test next is leads.
    walk-found test next _ _ c.loop-p-test.true c.if-p-limit.true (is _ _ (omega arith) c.hit.ensures) c.if-hit.true ∙ sym (c.loop-p.invariant.1 test next is leads)

pub loop-p-preserved : goal.loop-p-preserved
loop-p-preserved g c = (
  omega arith,
  λ test next is leads.
      c.loop-p.invariant.1 test next is leads ∙ walk-on test next _ _ c.loop-p-test.true c.if-p-limit.true (is _ _ (omega arith) c.hit.ensures) c.if-hit.false (leads _ _ (omega arith) c.link-p.ensures),
)

pub returns : goal.returns
returns g c = λ test next is leads.
    let left = sym (c.loop-p.invariant.1 test next is leads) in
    elim c.loop-p-test.branch [
      | then-loop-p-test+else-p-limit w ↦ walk-beyond test next _ _ w.if-p-limit.false ∙ left
      | else-loop-p-test w ↦ walk-ended test next _ _ w.loop-p-test.false ∙ left
    ]
