-- `vrf_text::is_utf8` satisfies its contract: at each place the text is valid if and only if the rest is.
use native.Mathlib.Omega.{arith}
use Rattle.vrf_text.proofs.Ascii.{clear-passed}
use Rattle.vrf_text.proofs.Walks.{end}
use Rattle.vrf_text.proofs.is_utf8.Goals as goal

pub loop-i-init : goal.loop-i-init
loop-i-init c = clear-passed _ (λ k. omega (arith, c.shared_slice_known-1.given k)) c.clear_run-i.result c.clear_run-i.ensures.1

pub returns : goal.returns
returns c = end _ c.loop-i.i c.loop-i.invariant c.loop-i-test.false
