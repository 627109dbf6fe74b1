-- `vrf_text::Span::utf8_len` satisfies its contract: at each place, what is decoded so far has `len` bytes.
use Rattle.std.proofs.Common.{arith, sym}
use Rattle.vrf_text.specs.Inner.Spans.{units_in}
use Rattle.vrf_text.proofs.Decoding.{start, bad, on, end}
use Rattle.vrf_text.proofs.Runs.{units-length}
use Rattle.vrf_text.proofs.Span.utf8_len.Goals as goal

pub loop-i-init : goal.loop-i-init
loop-i-init c = (start (units_in c.args.self), omega arith, omega arith)

pub returns-in_err-c : goal.returns-in_err-c
returns-in_err-c c = rw c.from_residual.ensures (bad _ c.loop-i.i c.loop-i.len c.loop-i.invariant.0 (c.in_err-c.ensures _ c.unit_word.ensures))

pub loop-i-preserved : goal.loop-i-preserved
loop-i-preserved c = (
  rw c.utf8_len-len.ensures.0 (on _ c.loop-i.i c.loop-i.len c.loop-i.invariant.0 _ _ (c.in_ok-c.ensures _ c.unit_word.ensures)),
  omega (arith, c.in_ok-c.c.few),
  omega (arith, c.in_ok-c.c.some, c.utf8_len-len.ensures.1),
)

pub returns : goal.returns
returns c = (
  c.loop-i.invariant.0.done,
  (
    end (units_in c.args.self) c.loop-i.i c.loop-i.len c.loop-i.invariant.0 (omega (arith, units-length c.args.self.«data».now c.args.self.at c.args.self.len)),
    sym c.loop-i.invariant.0.long,
  ),
)
