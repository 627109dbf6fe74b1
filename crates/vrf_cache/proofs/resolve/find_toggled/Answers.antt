-- One case for each toggle.
use Rattle.std.proofs.Common.{sym, ap, ◌∙◌}
use Rattle.vrf_path.specs.Toggle.{class_net_cache}
use Rattle.vrf_table.specs.Inner.Answers.{entry}
use Rattle.vrf_store.specs.Inner.Stepped.{held}
use Rattle.vrf_cache.proofs.Laws.Resolve.{path-alone, path-missing}
use Rattle.vrf_cache.proofs.resolve.find_toggled.Goals as goal

pub returns-in_err-n : goal.returns-in_err-n
returns-in_err-n c = ap entry c.from_residual.ensures ∙ sym (path-missing (held c.args.m.now).groups c.in_err-n.ensures)

pub returns-in-Stripped : goal.returns-in-Stripped
returns-in-Stripped c =
    let toggle = rw c.in-Stripped.is at c.in_ok-n.ensures in
    c.find_path_place.ensures ∙ sym (path-alone (held c.args.m.now).groups toggle.0)

pub returns-in-Appended : goal.returns-in-Appended
unfolding class_net_cache
returns-in-Appended c =
    let toggle = rw c.in-Appended.is at c.in_ok-n.ensures in
    c.find_joined.ensures ∙ sym (path-alone (held c.args.m.now).groups toggle)
