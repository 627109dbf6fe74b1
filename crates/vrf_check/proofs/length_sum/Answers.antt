-- The sum of one more row.
use Rattle.std.proofs.Common.{refl, arith}
use Rattle.vrf_table.specs.Table.{len}
use Rattle.vrf_store.specs.UpTo.{sum_below}
use Rattle.vrf_store.proofs.Laws.Check.Steps.{sum-next}
use Rattle.vrf_check.proofs.length_sum.Goals as goal

pub loop-e-init : goal.loop-e-init
unfolding sum_below
loop-e-init c = (refl, omega arith)

pub loop-e-preserved : goal.loop-e-preserved
loop-e-preserved c = (omega (arith, sum-next (len c.args.index.rows.now) c.loop-e.e), omega arith)
