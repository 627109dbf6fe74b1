-- `vrf_store::look::get_outer_path` satisfies its contract.
use Rattle.std.specs.Prelude.{None}
use Rattle.std.proofs.Common.{◌≡◌, sym, ap, ◌∙◌, arith}
use Rattle.vrf_model.specs.Lookup.{outer_path, then_lookup}
use Rattle.vrf_table.specs.Inner.Answers.{entry}
use Rattle.vrf_store.proofs.look.get_outer_path.Goals as goal

pub returns : goal.returns
unfolding outer_path then_lookup
returns c =
    let there = sym c.get_outer_guid.ensures ∙ ap entry c.in_ok-outer.was in
    rw there c.find_guid.ensures

pub returns-in_err-outer : goal.returns-in_err-outer
unfolding outer_path then_lookup
returns-in_err-outer c =
    let gone : c.from_residual.result ≡ None = grind arith in
    let there = sym c.get_outer_guid.ensures ∙ ap entry c.in_err-outer.was in
    rw (gone, there)
