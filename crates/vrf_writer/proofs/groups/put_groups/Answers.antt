-- After an iteration, one more group is written.
use Rattle.std.proofs.Common.{refl, arith}
use Rattle.vrf_store.specs.Store.{store_of}
use Rattle.vrf_writer.proofs.Laws.Prefix.{writes_as, fits-as, under-space, last-lent}
use Rattle.vrf_writer.proofs.Laws.Each.{sent-start, sent-under, sent-step, sent-end, sent-space}
use Rattle.vrf_writer.proofs.Laws.Groups.{groups-code}
use Rattle.vrf_writer.proofs.groups.put_groups.Goals as goal

pub loop-g-init : goal.loop-g-init
loop-g-init c = sent-start (fits-as (groups-code (store_of c.args.m.now) refl) c.requires.1)

pub slice_bounds-put_group-count : goal.slice_bounds-put_group-count
slice_bounds-put_group-count c = omega (arith, under-space (sent-under c.loop-g.invariant (omega arith)))

pub slice_bounds-put_group-start : goal.slice_bounds-put_group-start
slice_bounds-put_group-start c = omega (arith, under-space (sent-under c.loop-g.invariant (omega arith)))

pub put_group-at-requires : goal.put_group-at-requires
put_group-at-requires c = (c.requires.0, omega arith, last-lent (sent-under c.loop-g.invariant (omega arith)) refl)

pub overflow_add-at : goal.overflow_add-at
overflow_add-at c = omega (arith, c, sent-space (sent-step c.loop-g.invariant (omega arith) c.put_group-at.ensures))

pub loop-g-preserved : goal.loop-g-preserved
loop-g-preserved c = sent-step c.loop-g.invariant (omega arith) c.put_group-at.ensures

pub returns : goal.returns
returns c = writes_as (groups-code (store_of c.args.m.now) refl) (sent-end c.loop-g.invariant (omega arith))
