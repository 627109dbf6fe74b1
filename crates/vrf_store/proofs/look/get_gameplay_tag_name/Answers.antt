-- `vrf_store::look::get_gameplay_tag_name` satisfies its contract.
use Rattle.std.specs.Prelude.{None}
use Rattle.std.proofs.Common.{◌≡◌, sym, ap, ◌∙◌, arith}
use Rattle.vrf_model.specs.Lookup.{gameplay_tag, then_lookup, tag_group_path}
use Rattle.vrf_table.specs.Inner.Answers.{entry}
use Rattle.vrf_store.proofs.look.get_gameplay_tag_name.Goals as goal

pub returns : goal.returns
unfolding gameplay_tag then_lookup tag_group_path
returns c =
    let there = sym c.find_path_place.ensures ∙ ap entry c.in_ok-place.was in
    rw there c.if_filled.ensures

pub returns-in_err-place : goal.returns-in_err-place
unfolding gameplay_tag then_lookup tag_group_path
returns-in_err-place c =
    let gone : c.from_residual.result ≡ None = grind arith in
    let there = sym c.find_path_place.ensures ∙ ap entry c.in_err-place.was in
    rw (gone, there)
