-- After an iteration, one more group has no clash before the least one.
use Rattle.std.proofs.Common.{◌≡◌, ◌-◌, length}
use Rattle.vrf_store.specs.Store.{store_of}
use Rattle.vrf_writer.specs.Inner.Clash.{is_key_at}
use Rattle.vrf_writer.proofs.Laws.Clash.{Sought}
use Rattle.vrf_writer.proofs.clash.first_clash_in.Given as goal

abbrev pub invariant-loop-h : goal.invariant-loop-h
invariant-loop-h l = Sought (is_key_at (store_of l.m)) l.n l.h l.least × (length l.scratch ≡ length l.initial.scratch)

abbrev pub decreases-loop-h : goal.decreases-loop-h
decreases-loop-h l = l.least - l.h
