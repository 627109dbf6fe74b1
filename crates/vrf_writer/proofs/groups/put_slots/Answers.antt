-- After an iteration, one more slot is written.
use Rattle.std.proofs.Common.{refl, arith}
use Rattle.vrf_store.specs.Store.{store_of}
use Rattle.vrf_writer.proofs.Laws.Prefix.{writes_as, fits-as, under-space, last-lent}
use Rattle.vrf_writer.proofs.Laws.Each.{sent-start, sent-under, sent-step, sent-end, sent-space}
use Rattle.vrf_writer.proofs.Laws.Groups.{slot-code, slot-below, group-slots-code}
use Rattle.vrf_writer.proofs.groups.put_slots.Goals as goal

pub loop-slot-init : goal.loop-slot-init
loop-slot-init c = sent-start (fits-as (group-slots-code (store_of c.args.m.now) c.args.place c.requires.1 refl) c.requires.2)

pub slice_bounds-put_slot-count : goal.slice_bounds-put_slot-count
slice_bounds-put_slot-count c = omega (arith, under-space (sent-under c.loop-slot.invariant (omega arith)))

pub slice_bounds-put_slot-start : goal.slice_bounds-put_slot-start
slice_bounds-put_slot-start c = omega (arith, under-space (sent-under c.loop-slot.invariant (omega arith)))

pub put_slot-at-requires : goal.put_slot-at-requires
put_slot-at-requires c =
    let v = c.requires.0.valid in
    let q = c.loop-slot.slot in
    (c.requires.0, slot-below v c.args.place q c.find_slot-found.ensures, last-lent (sent-under c.loop-slot.invariant (omega arith)) (slot-code v c.args.place q c.find_slot-found.ensures))

pub overflow_add-at : goal.overflow_add-at
overflow_add-at c =
    let code = slot-code c.requires.0.valid c.args.place c.loop-slot.slot c.find_slot-found.ensures in
    omega (arith, c, sent-space (sent-step c.loop-slot.invariant (omega arith) (writes_as code c.put_slot-at.ensures)))

pub loop-slot-preserved : goal.loop-slot-preserved
loop-slot-preserved c =
    let code = slot-code c.requires.0.valid c.args.place c.loop-slot.slot c.find_slot-found.ensures in
    sent-step c.loop-slot.invariant (omega arith) (writes_as code c.put_slot-at.ensures)

pub returns : goal.returns
returns c = writes_as (group-slots-code (store_of c.args.m.now) c.args.place c.requires.1 refl) (sent-end c.loop-slot.invariant (omega arith))
