-- The texts of the first e rows are moved, the others are unchanged.
use Rattle.vrf_store.specs.Inner.Texts.{TextsMoved}
use Rattle.vrf_store.proofs.texts.move_texts.Given as goal

abbrev pub invariant-loop-e : goal.invariant-loop-e
invariant-loop-e l = TextsMoved l.initial.m l.m l.rows l.e l.from l.to l.used l.end
