-- `vrf_reader::objects::load_chain` satisfies its contract. It calls itself with less depth left.
use Rattle.vrf_reader.proofs.Laws.Simulates.{passed-on}
use Rattle.vrf_reader.proofs.Laws.Objects.{head-refused, head-zero, head-flagless, head-path, head-ends}
use Rattle.vrf_reader.proofs.Laws.Objects.{too-deep, object-refused, object-ends, outer-refused, outer-then}
use Rattle.vrf_reader.proofs.objects.+load_chain.Goals as goal

pub returns-then-left-eq0 : goal.returns-then-left-eq0
returns-then-left-eq0 t c = too-deep _ _ c.requires.0 c.if-left-eq0.true

pub returns-in_err-guid : goal.returns-in_err-guid
returns-in_err-guid t c =
    passed-on _ _ _ c.from_residual.ensures.1
    (object-refused _ _ c.if-left-eq0.false _ (head-refused _ _ c.requires.0 _ c.in_err-guid.ensures.0))

pub returns-then-guid-eq0 : goal.returns-then-guid-eq0
returns-then-guid-eq0 t c =
    object-ends _ _ c.if-left-eq0.false 0 (head-zero _ _ c.requires.0 c.in_ok-guid.ensures c.if-guid-eq0.true)

pub returns-in_err-flags : goal.returns-in_err-flags
returns-in_err-flags t c =
    passed-on _ _ _ c.from_residual-in_err-flags.ensures.1
    (object-refused _ _ c.if-left-eq0.false _
    (head-flagless _ _ c.requires.0 c.in_ok-guid.ensures c.if-guid-eq0.false _ c.in_err-flags.ensures))

pub returns-then-flags-ne1 : goal.returns-then-flags-ne1
returns-then-flags-ne1 t c =
    object-ends _ _ c.if-left-eq0.false _
    (head-ends _ _ c.requires.0 c.in_ok-guid.ensures c.if-guid-eq0.false c.in_ok-flags.ensures c.if-flags-ne1.true)

pub returns-in_err-outer : goal.returns-in_err-outer
returns-in_err-outer t c =
    let head = head-path _ _ c.requires.0 c.in_ok-guid.ensures c.if-guid-eq0.false c.in_ok-flags.ensures c.if-flags-ne1.false in
    passed-on _ _ _ c.from_residual-in_err-outer.ensures.1 (outer-refused _ _ c.if-left-eq0.false _ _ head _ c.in_err-outer.ensures)

pub returns : goal.returns
returns t c =
    let head = head-path _ _ c.requires.0 c.in_ok-guid.ensures c.if-guid-eq0.false c.in_ok-flags.ensures c.if-flags-ne1.false in
    outer-then _ _ c.if-left-eq0.false _ _ head _ c.in_ok-outer.ensures _ _ c.record_object.result c.record_object.ensures
