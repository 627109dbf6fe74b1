-- The path is found, or not.
use Rattle.std.proofs.Common.{sym, ap, ◌∙◌}
use Rattle.vrf_table.specs.Inner.Answers.{entry}
use Rattle.vrf_store.specs.Inner.Stepped.{held}
use Rattle.vrf_cache.proofs.Laws.Groups.Added.{path-found, added-by}
use Rattle.vrf_cache.proofs.groups.add_export_group.Goals as goal

pub merge_at-requires : goal.merge_at-requires
merge_at-requires c = path-found c.requires (sym (ap entry c.in-Some.is) ∙ c.find_path_place.ensures)

pub returns-in-Some : goal.returns-in-Some
returns-in-Some c =
    let x = c.args in
    rw (added-by x.path.now x.index x.slots (held x.m.now) (sym (ap entry c.in-Some.is) ∙ c.find_path_place.ensures)) c.merge_at.ensures

pub returns-in-None : goal.returns-in-None
returns-in-None c =
    let x = c.args in
    rw (added-by x.path.now x.index x.slots (held x.m.now) (sym (ap entry c.in-None.is) ∙ c.find_path_place.ensures)) c.add_unknown.ensures
