-- The sum is the length of the groups so far.
use Rattle.std.proofs.Common.{ℕ, ◌+◌, ap, arith}
use Rattle.vrf_writer.proofs.Laws.Size.{summed-start, summed-step, summed-next, group-short}
use Rattle.vrf_writer.proofs.size.groups_len.Goals as goal

pub loop-g-init : goal.loop-g-init
loop-g-init c = summed-start

-- each of them has at most 69647 bytes
pub overflow_add-sum : goal.overflow_add-sum
overflow_add-sum c = omega (arith, summed-next c.loop-g.invariant 69647 (group-short c.requires.valid) (omega arith), c.group_len-sum.ensures)

pub loop-g-preserved : goal.loop-g-preserved
loop-g-preserved c = summed-step c.loop-g.invariant (omega arith) (ap (λ (k : ℕ). c.loop-g.sum + k) c.group_len-sum.ensures)
