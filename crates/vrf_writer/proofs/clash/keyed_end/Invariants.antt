-- The rest of the chain has the last entry for the key.
use Rattle.vrf_store.specs.Store.{store_of}
use Rattle.vrf_writer.proofs.Laws.Clash.{Walking}
use Rattle.vrf_writer.proofs.clash.keyed_end.Given as goal

abbrev pub invariant-loop-p : goal.invariant-loop-p
invariant-loop-p l = Walking (store_of l.m) l.k l.limit l.p

abbrev pub decreases-loop-p : goal.decreases-loop-p
decreases-loop-p l = l.limit
