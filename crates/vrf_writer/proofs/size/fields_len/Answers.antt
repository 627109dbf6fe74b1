-- The sum is the length of the fields so far.
use Rattle.std.proofs.Common.{ℕ, ◌+◌, ap, arith}
use Rattle.vrf_writer.proofs.Laws.Size.{summed-start, summed-step, summed-next, field-short}
use Rattle.vrf_writer.proofs.size.fields_len.Goals as goal

pub loop-e-init : goal.loop-e-init
loop-e-init c = summed-start

-- each of them has at most 4115 bytes
pub overflow_add-sum : goal.overflow_add-sum
overflow_add-sum c = omega (arith, summed-next c.loop-e.invariant 4115 (field-short c.requires.valid) (omega arith), c.field_len-sum.ensures)

pub loop-e-preserved : goal.loop-e-preserved
loop-e-preserved c = summed-step c.loop-e.invariant (omega arith) (ap (λ (k : ℕ). c.loop-e.sum + k) c.field_len-sum.ensures)
