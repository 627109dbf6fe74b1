-- `vrf_text::Span::ascii` satisfies its contract: the top bits of the bytes that it passes are 0.
use Rattle.std.proofs.Common.{arith, length-take}
use Rattle.vrf_text.proofs.Ascii.{clear_at}
use Rattle.vrf_text.proofs.Span.ascii.Goals as goal

pub returns : goal.returns
returns c = clear_at _ _ _ c.clear_run.result (omega (arith, simp length-take at c.clear_run.ensures.0)) c.clear_run.ensures.1
