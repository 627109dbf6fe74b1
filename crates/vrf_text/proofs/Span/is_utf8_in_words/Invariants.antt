use Rattle.std.proofs.Common.{◌-◌, ◌≡◌, drop}
use Rattle.vrf_text.specs.Utf8.{utf8}
use Rattle.vrf_text.specs.Inner.Spans.{bytes_in}
use Rattle.vrf_text.proofs.Span.is_utf8_in_words.Given as goal

abbrev pub invariant-loop-i : goal.invariant-loop-i
invariant-loop-i l = utf8 (drop l.i (bytes_in l.self)) ≡ utf8 (bytes_in l.self)

abbrev pub decreases-loop-i : goal.decreases-loop-i
decreases-loop-i l = l.self.len - l.i
