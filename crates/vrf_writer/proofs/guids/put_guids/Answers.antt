-- After an iteration, one more record is written.
use Rattle.std.proofs.Common.{refl, arith}
use Rattle.vrf_store.specs.Store.{store_of}
use Rattle.vrf_writer.proofs.Laws.Prefix.{fits-as, writes_as, under-space, last-lent}
use Rattle.vrf_writer.proofs.Laws.Each.{sent-space, sent-start, sent-under, sent-step, sent-end}
use Rattle.vrf_writer.proofs.Laws.Rows.{guid-good}
use Rattle.vrf_writer.proofs.Laws.Guids.{guids-code}
use Rattle.vrf_writer.proofs.guids.put_guids.Goals as goal

pub loop-i-init : goal.loop-i-init
loop-i-init c = sent-start (fits-as (guids-code (store_of c.args.m.now) c.guid_rows-rows.ensures c.texts-x.ensures refl) c.requires.1)

pub slice_bounds-put_guid-count : goal.slice_bounds-put_guid-count
slice_bounds-put_guid-count c = omega (arith, under-space (sent-under c.loop-i.invariant (omega arith)))

pub slice_bounds-put_guid-start : goal.slice_bounds-put_guid-start
slice_bounds-put_guid-start c = omega (arith, under-space (sent-under c.loop-i.invariant (omega arith)))

pub put_guid-at-requires : goal.put_guid-at-requires
put_guid-at-requires c =
    (guid-good c.requires.0.valid c.texts-x.ensures c.guid_rows-rows.ensures (omega arith), last-lent (sent-under c.loop-i.invariant (omega arith)) refl)

pub overflow_add-at : goal.overflow_add-at
overflow_add-at c = omega (arith, c, sent-space (sent-step c.loop-i.invariant (omega arith) c.put_guid-at.ensures))

pub loop-i-preserved : goal.loop-i-preserved
loop-i-preserved c = sent-step c.loop-i.invariant (omega arith) c.put_guid-at.ensures

pub returns : goal.returns
returns c = writes_as (guids-code (store_of c.args.m.now) c.guid_rows-rows.ensures c.texts-x.ensures refl) (sent-end c.loop-i.invariant (omega arith))
