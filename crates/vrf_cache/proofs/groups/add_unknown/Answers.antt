-- The cases of `add_group_at` where the path is not found.
use Rattle.std.proofs.Common.{sym, ap, ◌∙◌}
use Rattle.vrf_table.specs.Inner.Answers.{entry}
use Rattle.vrf_cache.proofs.Laws.Groups.Added.{replace-asked, replaced-by, appended-by}
use Rattle.vrf_cache.proofs.groups.add_unknown.Goals as goal

pub replace_at-requires : goal.replace_at-requires
replace_at-requires c = replace-asked c.args.index c.requires (sym (ap entry c.in-Some.is) ∙ c.find_index.ensures)

pub returns-in-Some : goal.returns-in-Some
returns-in-Some c = rw (replaced-by c.args.index c.requires (sym (ap entry c.in-Some.is) ∙ c.find_index.ensures)) c.replace_at.ensures

pub returns-in-None : goal.returns-in-None
returns-in-None c = rw (appended-by c.args.index c.requires (sym (ap entry c.in-None.is) ∙ c.find_index.ensures)) c.append_group.ensures
