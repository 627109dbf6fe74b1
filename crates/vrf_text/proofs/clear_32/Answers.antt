-- `vrf_text::clear_32` satisfies its contract: in each of the four words, bit b of each byte is 0.
use native.Mathlib.Omega.{arith}
use borrow.Author.Tests.{eqb-true}
use Rattle.vrf_text.proofs.Ascii.{four}
use Rattle.vrf_text.proofs.clear_32.Goals as goal

pub returns : goal.returns
returns c =
    λ e. (c.if-s-lt32.false, four _ (λ k. omega (arith, c.shared_slice_known-1.given k)) _ (omega arith) c.bits_at.ensures c.bits_at-2.ensures c.bits_at-3.ensures c.bits_at-4.ensures (eqb-true _ _ e))
