-- `vrf_store::groups::replace_group` satisfies its contract: the group has no fields.
use Rattle.vrf_store.proofs.Laws.Groups.Replaced.{replace-handles, replace-content, stepped-as}
use Rattle.vrf_store.proofs.groups.replace_group.Goals as goal

pub set_row-requires : goal.set_row-requires
set_row-requires c = let pre = c.requires in (pre.0, replace-handles pre.0 pre.1)

pub returns : goal.returns
returns c = let pre = c.requires in stepped-as c.set_row.ensures (replace-content pre.0 pre.1)
