-- `vrf_bitio::bits_within` satisfies its contract: the bits are in one load, or in one load and the byte after it.
use Rattle.std.proofs.Common.{sym, ◌∙◌, arith}
use Rattle.vrf_bitio.proofs.Words.{no_bits, within, across, across-fits}
use Rattle.vrf_bitio.proofs.bits_within.Goals as goal

pub returns-then-w-eq0 : goal.returns-then-w-eq0
returns-then-w-eq0 c = rw c.if-w-eq0.true (sym (no_bits _ _))

pub returns-then-w-got : goal.returns-then-w-got
returns-then-w-got c = c.low_bits.ensures ∙ within _ _ _ _ c.load_u64.ensures c.if-w-got.true

pub overflow_add-result : goal.overflow_add-result
overflow_add-result c = record { fits = across-fits _ _ _ _ _ c.load_u64.ensures c.if-w-got.false (omega arith) c.byte_or_zero.ensures.0 }

pub returns : goal.returns
returns c = across _ _ _ _ _ c.load_u64.ensures c.if-w-got.false (omega arith) c.byte_or_zero.ensures.0
