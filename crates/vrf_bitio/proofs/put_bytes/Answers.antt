-- `vrf_bitio::put_bytes` satisfies its contract: each turn writes the lowest byte that is left.
use Rattle.vrf_bitio.proofs.Copies.{put-start, put_step, put-end}
use Rattle.vrf_bitio.proofs.put_bytes.Goals as goal

pub loop-k-init : goal.loop-k-init
loop-k-init c = put-start _ _ _ _

pub loop-k-preserved : goal.loop-k-preserved
loop-k-preserved c = put_step _ _ _ _ _ _ _ c.loop-k.invariant c.loop-k-test.true c.requires

pub returns : goal.returns
returns c = put-end _ _ _ _ _ _ _ c.loop-k.invariant c.loop-k-test.false
