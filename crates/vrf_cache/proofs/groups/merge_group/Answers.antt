-- The group only grows, or is also renamed.
use Rattle.std.proofs.Common.{sym, ◌∙◌}
use Rattle.vrf_cache.proofs.Laws.Groups.Steps.{named, grow-taken}
use Rattle.vrf_cache.proofs.groups.merge_group.Goals as goal

pub returns-then-is_named : goal.returns-then-is_named
returns-then-is_named c =
    let as-asked = named (sym c.is_named.ensures ∙ c.if-is_named.true) in
    grow-taken c.requires as-asked.0 as-asked.1 c.grow_group.ensures c.step.ensures
