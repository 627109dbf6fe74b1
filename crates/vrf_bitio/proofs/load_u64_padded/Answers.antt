-- `vrf_bitio::load_u64_padded` satisfies its contract: each turn puts one more byte below the word.
use Rattle.std.proofs.Common.{arith}
use Rattle.vrf_bitio.proofs.Words.{start, below, fits}
use Rattle.vrf_bitio.proofs.load_u64_padded.Goals as goal

pub loop-k-init : goal.loop-k-init
loop-k-init c = start _ _

pub overflow_mul-word : goal.overflow_mul-word
overflow_mul-word c = omega (arith, fits _ _ _ _ c.loop-k-test.true c.loop-k.invariant)

pub overflow_add-word : goal.overflow_add-word
overflow_add-word c = omega (arith, fits _ _ _ _ c.loop-k-test.true c.loop-k.invariant)

pub loop-k-preserved : goal.loop-k-preserved
loop-k-preserved c = below _ _ _ _ c.loop-k-test.true (omega arith) (c.type_inv.s _).fits c.loop-k.invariant
