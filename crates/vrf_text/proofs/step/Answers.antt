-- `vrf_text::step` satisfies its contract: it passes eight ASCII bytes, or four, or one character.
use native.Mathlib.Omega.{arith}
use Rattle.vrf_text.proofs.Ascii.{ascii-8, ascii-4}
use Rattle.vrf_text.proofs.step.Goals as goal

pub returns-then-w-eq0 : goal.returns-then-w-eq0
returns-then-w-eq0 c = record { few = (omega arith, omega arith); passed = ascii-8 _ c.if-w-eq0.true }

pub returns-then-w-eq0-2 : goal.returns-then-w-eq0-2
returns-then-w-eq0-2 c = record { few = (omega arith, omega arith); passed = ascii-4 _ c.if-w-eq0-2.true }
