-- `vrf_bitio::joined` satisfies its contract: the upper shift leaves the low bits of the second word, above those of the first.
use Rattle.std.proofs.Common.{arith}
use Rattle.vrf_bitio.proofs.Words.{upper, join-fits}
use Rattle.vrf_bitio.proofs.joined.Goals as goal

pub overflow_add-result : goal.overflow_add-result
overflow_add-result c = record { fits = join-fits _ _ _ (omega arith) (omega arith) }

pub returns : goal.returns
returns c = rw (upper c.args.next c.args.off (omega arith))
