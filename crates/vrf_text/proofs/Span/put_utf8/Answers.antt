-- `vrf_text::Span::put_utf8` satisfies its contract: at each place, `out` begins with what is decoded so far.
use Rattle.std.proofs.Common.{arith}
use Rattle.vrf_text.specs.Inner.Spans.{units_in}
use Rattle.vrf_text.proofs.Decoding.{write-start, begins, fits, write-on, write-end}
use Rattle.vrf_text.proofs.Runs.{units-length}
use Rattle.vrf_text.proofs.Span.put_utf8.Goals as goal

pub loop-i-init : goal.loop-i-init
loop-i-init c = (write-start (units_in c.args.self) c.args.out.now, omega arith)

pub unwrap-c-requires : goal.unwrap-c-requires
unwrap-c-requires c = begins _ _ c.loop-i.out c.loop-i.i c.loop-i.at c.loop-i.invariant.0 c.requires c.first.result (c.first.ensures _ c.unit_word.ensures)

pub put-at-requires : goal.put-at-requires
put-at-requires c =
    fits _ _ c.loop-i.out c.loop-i.i c.loop-i.at c.loop-i.invariant.0 c.requires _ c.unwrap-c.result.units (rw c.unwrap-c.ensures at (c.first.ensures _ c.unit_word.ensures))

pub loop-i-preserved : goal.loop-i-preserved
loop-i-preserved c = (
  rw c.put-at.ensures.0 (write-on _ _ c.loop-i.out c.loop-i.i c.loop-i.at c.loop-i.invariant.0 c.requires _ c.unwrap-c.result.units (rw c.unwrap-c.ensures at (c.first.ensures _ c.unit_word.ensures)) c.put-at.ensures.1),
  omega (arith, c.unwrap-c.result.few),
)

pub returns : goal.returns
returns c =
    write-end (units_in c.args.self) c.args.out.now c.loop-i.out c.loop-i.i c.loop-i.at c.loop-i.invariant.0
    (omega (arith, units-length c.args.self.«data».now c.args.self.at c.args.self.len))
