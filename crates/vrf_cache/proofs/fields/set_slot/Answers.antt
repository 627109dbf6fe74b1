-- The cases of `set_field_at`.
use Rattle.std.proofs.Common.{sym, ap, ◌∙◌}
use Rattle.vrf_table.specs.Inner.Answers.{entry}
use Rattle.vrf_store.specs.Inner.Stepped.{held}
use Rattle.vrf_cache.proofs.Laws.Fields.{slot-free, set_past, set-within, row-known, set-row}
use Rattle.vrf_cache.proofs.fields.set_slot.Goals as goal

pub returns-then-group_slots-slot : goal.returns-then-group_slots-slot
returns-then-group_slots-slot c =
    let x = c.args in
    rw (set_past (held x.m.now) x.slot x.checksum x.name.now x.place (rw c.group_slots.ensures at c.if-group_slots-slot.true)) c.drop_field.ensures

pub change_field-requires : goal.change_field-requires
change_field-requires c =
    let inside = rw c.group_slots.ensures at c.if-group_slots-slot.false in
    record { good = c.requires.0; is_text = c.requires.1; known = row-known c.requires.0 c.args.place inside (sym c.find_field.ensures ∙ ap entry c.in-Some.is) }

pub add_field-requires : goal.add_field-requires
add_field-requires c =
    let inside = rw c.group_slots.ensures at c.if-group_slots-slot.false in
    record { good = c.requires.0; is_text = c.requires.1; slot-in = inside; free = slot-free c.requires.0 c.args.place inside (sym c.find_field.ensures ∙ ap entry c.in-None.is) }

pub returns-in-Some : goal.returns-in-Some
returns-in-Some c =
    let inside = rw c.group_slots.ensures at c.if-group_slots-slot.false in
    rw (set-row c.requires.0 c.args.place inside (sym c.find_field.ensures ∙ ap entry c.in-Some.is) c.args.checksum c.args.name.now) c.change_field.ensures

pub returns-in-None : goal.returns-in-None
returns-in-None c =
    let x = c.args in
    let inside = rw c.group_slots.ensures at c.if-group_slots-slot.false in
    rw (set-within (held x.m.now) x.slot x.checksum x.name.now x.place inside) c.add_field.ensures
