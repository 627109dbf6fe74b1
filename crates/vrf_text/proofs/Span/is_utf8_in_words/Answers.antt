-- `vrf_text::Span::is_utf8_in_words` satisfies its contract: at each place the text is valid if and only if the rest is.
use Rattle.std.proofs.Common.{arith}
use Rattle.vrf_bitio.proofs.Laws.Window.{bytes-length}
use Rattle.vrf_text.specs.Inner.Spans.{bytes_in}
use Rattle.vrf_text.proofs.Walks.{on, end}
use Rattle.vrf_text.proofs.Span.is_utf8_in_words.Goals as goal

pub returns : goal.returns
returns c = end (bytes_in c.args.self) c.loop-i.i c.loop-i.invariant (omega (arith, bytes-length c.args.self.«data».now c.args.self.at c.args.self.len))

pub loop-i-preserved : goal.loop-i-preserved
loop-i-preserved c = on _ c.loop-i.i c.loop-i.invariant _ (c.in-Some.ensures.passed _ c.word.ensures)
