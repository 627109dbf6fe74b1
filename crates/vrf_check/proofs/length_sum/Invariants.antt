-- The sum is that of the rows passed.
use Rattle.std.proofs.Common.{◌≡◌, ◌*◌, ◌≤◌}
use Rattle.vrf_table.specs.Table.{len}
use Rattle.vrf_store.specs.UpTo.{sum_below}
use Rattle.vrf_check.proofs.length_sum.Given as goal

abbrev pub invariant-loop-e : goal.invariant-loop-e
invariant-loop-e l = (l.sum ≡ sum_below (len l.index.rows.now) l.e) × (l.sum ≤ 4294967295 * l.e)
