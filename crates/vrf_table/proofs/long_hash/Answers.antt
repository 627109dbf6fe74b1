-- `vrf_table::long_hash` satisfies its contract.
use Rattle.std.proofs.Common.{arith}
use Rattle.vrf_table.proofs.Hashes.{hash-start, hash-next, hash-end}
use Rattle.vrf_table.proofs.long_hash.Goals as goal

pub loop-i-init : goal.loop-i-init
loop-i-init c = hash-start c.args.t.now c.requires.1

pub loop-i-preserved : goal.loop-i-preserved
loop-i-preserved c = let l = c.loop-i in hash-next c.args.t.now l.i l.h _ l.invariant c.four_turns-h.ensures

pub returns : goal.returns
returns c = let l = c.loop-i in hash-end c.args.t.now l.i l.h _ (omega arith) l.invariant c.last_turns.ensures
