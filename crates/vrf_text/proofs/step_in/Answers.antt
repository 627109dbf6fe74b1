-- `vrf_text::step_in` satisfies its contract.
use native.Mathlib.Omega.{arith}
use Rattle.vrf_text.proofs.Ascii.{clear-passed}
use Rattle.vrf_text.proofs.Runs.{holds-in}
use Rattle.vrf_text.proofs.step_in.Goals as goal

pub returns-in_err-k : goal.returns-in_err-k
returns-in_err-k c =
    rw c.from_residual.ensures
    (tt, c.in_err-k.ensures.passed _ (holds-in _ (λ k. omega (arith, c.shared_slice_known-1.given k)) 0 c.bits_at.ensures))

pub returns-then-clear_32 : goal.returns-then-clear_32
returns-then-clear_32 c =
    ((omega arith, omega arith), clear-passed _ (λ k. omega (arith, c.shared_slice_known-1.given k)) 32 (c.clear_32.ensures c.if-clear_32.true).1)

pub returns-else-k-eq8 : goal.returns-else-k-eq8
returns-else-k-eq8 c =
    ((c.in_ok-k.ensures.few.0, omega (arith, c.in_ok-k.ensures.few.1)), c.in_ok-k.ensures.passed _ (holds-in _ (λ k. omega (arith, c.shared_slice_known-1.given k)) 0 c.bits_at.ensures))
