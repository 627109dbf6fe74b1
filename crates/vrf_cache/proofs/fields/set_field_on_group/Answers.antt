-- The cases of `set_field`.
use Rattle.std.proofs.Common.{sym, ap, ◌∙◌}
use Rattle.vrf_table.specs.Inner.Answers.{entry}
use Rattle.vrf_store.specs.Inner.Stepped.{held}
use Rattle.vrf_cache.proofs.Laws.Fields.{set-unknown, set_known}
use Rattle.vrf_cache.proofs.fields.set_field_on_group.Goals as goal

pub returns-in-Some : goal.returns-in-Some
returns-in-Some c =
    let x = c.args in
    rw (set_known (held x.m.now) x.handle x.checksum x.name.now x.index (sym c.find_index.ensures ∙ ap entry c.in-Some.is)) c.set_slot.ensures

pub returns-in-None : goal.returns-in-None
returns-in-None c =
    let x = c.args in
    rw (set-unknown (held x.m.now) x.handle x.checksum x.name.now x.index (sym c.find_index.ensures ∙ ap entry c.in-None.is)) c.drop_field.ensures
