-- `vrf_store::texts::move_texts` satisfies its contract.
use Rattle.std.proofs.Common.{◌≡◌, arith}
use Rattle.vrf_store.proofs.Laws.Texts.Moved.{moved_none, next-fitting, moved-next}
use Rattle.vrf_store.proofs.texts.move_texts.Goals as goal

pub loop-e-init : goal.loop-e-init
loop-e-init c = moved_none _ _ _ _ _

pub move_text-end-requires : goal.move_text-end-requires
move_text-end-requires c =
    next-fitting _ _ _ _ _ _ _ _ c.requires _ _ c.loop-e-test.true c.loop-e.invariant

pub loop-e-preserved : goal.loop-e-preserved
loop-e-preserved c =
    let next = moved-next _ _ _ _ _ _ _ _ c.requires _ _ c.loop-e-test.true c.loop-e.invariant _ _ c.move_text-end.ensures.0 c.move_text-end.ensures.1 in
    next

pub returns : goal.returns
returns c =
    let all : c.loop-e.e ≡ c.args.n = omega arith in
    rw all at c.loop-e.invariant
