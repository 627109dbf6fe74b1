-- One case for a filled slot, and one for an empty slot.
use Rattle.std.proofs.Common.{[], ◌∷◌, sym, refl, ap, arith}
use Rattle.vrf_model.specs.Writer.{encode_slot}
use Rattle.vrf_table.specs.Inner.Answers.{entry}
use Rattle.vrf_store.specs.Store.{store_of, field_at, or_empty}
use Rattle.vrf_writer.proofs.Laws.Prefix.{PartlyWritten, writes_as, fits-as, under-start, under-space, under-byte, under-end}
use Rattle.vrf_writer.proofs.Laws.Groups.{slot-field, slot-none}
use Rattle.vrf_writer.proofs.groups.put_slot.Goals as goal

pub put_field-requires : goal.put_field-requires
put_field-requires c =
    let row = ap entry c.in-Some.is in
    (c.requires.0, c.requires.1 c.in-Some.e row, fits-as (slot-field (store_of c.args.m.now) c.args.slot row) c.requires.2)

pub returns-in-Some : goal.returns-in-Some
returns-in-Some c = writes_as (slot-field (store_of c.args.m.now) c.args.slot (ap entry c.in-Some.is)) c.put_field.ensures

pub bounds-out-0 : goal.bounds-out-0
bounds-out-0 c =
    let blank : PartlyWritten (encode_slot c.args.slot (or_empty (field_at (store_of c.args.m.now)) (entry c.args.found))) c.args.out.now c.args.out.now 0 (0 ∷ []) =
    under-start (sym (slot-none (store_of c.args.m.now) c.args.slot (ap entry c.in-None.is))) c.requires.2 in
    omega (arith, under-space blank)

pub returns-in-None : goal.returns-in-None
returns-in-None c =
    let blank : PartlyWritten (encode_slot c.args.slot (or_empty (field_at (store_of c.args.m.now)) (entry c.args.found))) c.args.out.now c.args.out.now 0 (0 ∷ []) =
    under-start (sym (slot-none (store_of c.args.m.now) c.args.slot (ap entry c.in-None.is))) c.requires.2 in
    under-end (under-byte 0 blank) refl
