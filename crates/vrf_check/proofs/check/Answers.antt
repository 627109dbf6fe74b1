-- The tables are checked only where the header is in bounds.
use Rattle.std.proofs.Common.{sym, ◌∙◌, arith}
use Rattle.std.proofs.lemmas.Grind.{common_steps}
use Rattle.vrf_store.specs.Check.{check}
use Rattle.vrf_check.proofs.Laws.Steps.{in_bounds}
use Rattle.vrf_check.proofs.check.Goals as goal

pub store_ok-requires : goal.store_ok-requires
store_ok-requires c = in_bounds c.args.m.now (sym c.bounds_ok.ensures ∙ c.if-bounds_ok.true)

pub returns-then-bounds_ok : goal.returns-then-bounds_ok
unfolding check
returns-then-bounds_ok c = grind (arith, common_steps)

pub returns-else-bounds_ok : goal.returns-else-bounds_ok
unfolding check
returns-else-bounds_ok c = grind (arith, common_steps)
