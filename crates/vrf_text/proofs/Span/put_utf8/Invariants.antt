use Rattle.std.proofs.Common.{◌-◌, ◌+◌, ◌≤◌}
use Rattle.vrf_text.specs.Inner.Spans.{units_in}
use Rattle.vrf_text.proofs.Decoding.{DecodeLoop}
use Rattle.vrf_text.proofs.Span.put_utf8.Given as goal

abbrev pub invariant-loop-i : goal.invariant-loop-i
invariant-loop-i l = DecodeLoop (units_in l.self) l.fn.out l.out l.i l.at × (l.i ≤ l.self.len + 1)

abbrev pub decreases-loop-i : goal.decreases-loop-i
decreases-loop-i l = l.self.len - l.i
