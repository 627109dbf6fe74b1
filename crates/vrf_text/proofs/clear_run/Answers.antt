-- `vrf_text::clear_run` satisfies its contract: at place i, bit b is 0 in the first i bytes.
use Rattle.vrf_text.proofs.Walks.{block}
use Rattle.vrf_text.proofs.clear_run.Goals as goal

pub loop-i-preserved : goal.loop-i-preserved
loop-i-preserved c =
    block c.args.s.now _ c.loop-i.i c.loop-i.invariant.1 (c.clear_32.ensures (c.if-not-clear_32.false))
