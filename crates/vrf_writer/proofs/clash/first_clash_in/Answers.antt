-- All groups before the least clash found have been taken.
use Rattle.std.proofs.Common.{arith}
use Rattle.vrf_store.specs.Store.{store_of}
use Rattle.vrf_writer.proofs.Laws.Clash.{sought-some, sought-none}
use Rattle.vrf_writer.proofs.clash.first_clash_in.Goals as goal

pub returns-then-least-n : goal.returns-then-least-n
returns-then-least-n c = sought-some (store_of c.args.m.now) c.groups-n.ensures c.loop-h.invariant.0 (omega arith) (omega arith)

pub returns-else-least-n : goal.returns-else-least-n
returns-else-least-n c = sought-none (store_of c.args.m.now) c.groups-n.ensures c.loop-h.invariant.0 (omega arith) (omega arith)
