-- `vrf_store::look::get_outer_guid` satisfies its contract.
use Rattle.std.specs.Prelude.{None}
use Rattle.std.proofs.Common.{◌≡◌, sym, ap, ◌∙◌, arith}
use Rattle.vrf_model.specs.Lookup.{outer_guid, then_lookup}
use Rattle.vrf_table.specs.Inner.Answers.{entry}
use Rattle.vrf_store.proofs.Laws.Fields.Row.{outer-place}
use Rattle.vrf_store.proofs.look.get_outer_guid.Goals as goal

pub returns : goal.returns
unfolding outer_guid then_lookup
returns c =
    let there = sym c.find_guid.ensures ∙ ap entry c.in_ok-i.was in
    rw (there, outer-place, ← c.guid_outer.ensures) c.unless_zero.ensures

pub returns-in_err-i : goal.returns-in_err-i
unfolding outer_guid then_lookup
returns-in_err-i c =
    let gone : c.from_residual.result ≡ None = grind arith in
    let there = sym c.find_guid.ensures ∙ ap entry c.in_err-i.was in
    rw (gone, there)
