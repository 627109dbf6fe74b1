-- `vrf_text::Span::unit_word` satisfies its contract.
use Rattle.std.proofs.Common.{arith}
use Rattle.vrf_text.proofs.Runs.{holds-last, holds-two}
use Rattle.vrf_text.proofs.Span.unit_word.Goals as goal

pub returns-then-self-i-eq1 : goal.returns-then-self-i-eq1
returns-then-self-i-eq1 c = holds-last _ _ _ _ c.if-self-i-eq1.true c.bits_at.ensures

pub returns-else-self-i-eq1 : goal.returns-else-self-i-eq1
returns-else-self-i-eq1 c = holds-two _ _ _ _ (omega arith) c.bits_at-else-self-i-eq1.ensures
