use Rattle.std.proofs.Common.{◌-◌, ◌+◌, ◌*◌, ◌≤◌}
use Rattle.vrf_text.specs.Inner.Spans.{units_in}
use Rattle.vrf_text.proofs.Decoding.{Decoding}
use Rattle.vrf_text.proofs.Span.utf8_len.Given as goal

abbrev pub invariant-loop-i : goal.invariant-loop-i
invariant-loop-i l = Decoding (units_in l.self) l.i l.len × (l.i ≤ l.self.len + 1) × (l.len ≤ 4 * l.i)

abbrev pub decreases-loop-i : goal.decreases-loop-i
decreases-loop-i l = l.self.len - l.i
