-- `vrf_reader::fields::group_of` satisfies its contract: the cases of `group_of`.
use mathlib.Core.Path.{sym, ap, ◌∙◌}
use Rattle.vrf_table.specs.Inner.Answers.{entry}
use Rattle.vrf_reader.proofs.Laws.Fields.{index-known, index-unknown, bad-flag, group-declared}
use Rattle.vrf_reader.proofs.fields.group_of.Goals as goal

pub returns-then-flag-eq1 : goal.returns-then-flag-eq1
returns-then-flag-eq1 c = group-declared _ c.if-flag-eq1.true _ _ _ _ c.declared_group.result c.declared_group.ensures

pub returns-then-flag-ne0 : goal.returns-then-flag-ne0
returns-then-flag-ne0 c = bad-flag _ c.requires.0 c.if-flag-ne0.true c.if-flag-eq1.false

pub returns-in-Some : goal.returns-in-Some
returns-in-Some c = index-known _ c.requires.0 c.if-flag-ne0.false (sym (ap entry c.in-Some.is) ∙ c.find_index.ensures)

pub returns-in-None : goal.returns-in-None
returns-in-None c = index-unknown _ c.requires.0 c.if-flag-ne0.false (sym (ap entry c.in-None.is) ∙ c.find_index.ensures)
