-- `vrf_checkpoint::groups::is_found` satisfies its contract: the index first, then the path.
use Rattle.std.proofs.Common.{sym, ◌∙◌}
use Rattle.vrf_checkpoint.proofs.Laws.Groups.{by-index, by-path}
use Rattle.vrf_checkpoint.proofs.groups.is_found.Goals as goal

pub returns-then-is_some : goal.returns-then-is_some
returns-then-is_some c = c.if-is_some.true ∙ by-index _ _ _ c.find_index.ensures (sym c.is_some.ensures ∙ c.if-is_some.true)

pub returns-else-is_some : goal.returns-else-is_some
returns-else-is_some c =
    c.is_some-else-is_some.ensures
    ∙ by-path _ _ _ _ c.find_index.ensures (sym c.is_some.ensures ∙ c.if-is_some.false) c.find_path_place.ensures
