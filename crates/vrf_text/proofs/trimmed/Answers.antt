-- `vrf_text::trimmed` satisfies its contract.
use native.Mathlib.Omega.{arith}
use borrow.Author.Tests.{eq-eqb, ne_eqb}
use Rattle.vrf_text.proofs.trimmed.Goals as goal

pub returns-then-last-eq0 : goal.returns-then-last-eq0
returns-then-last-eq0 c = (rw (eq-eqb _ 0 c.if-last-eq0.true), omega arith)

pub returns-else-last-eq0 : goal.returns-else-last-eq0
returns-else-last-eq0 c = (rw (ne_eqb _ 0 c.if-last-eq0.false), omega arith)
