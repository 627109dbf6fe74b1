-- `vrf_checkpoint::groups::add_first` satisfies its contract: 34 if index or path is found; otherwise the group is appended.
use Rattle.vrf_checkpoint.proofs.Laws.Groups.{already, first-asked, first-added}
use Rattle.vrf_checkpoint.proofs.groups.add_first.Goals as goal

pub returns-then-is_found : goal.returns-then-is_found
returns-then-is_found c = already _ _ c.args.slots _ c.is_found.ensures c.if-is_found.true

pub append_group-requires : goal.append_group-requires
append_group-requires c =
    first-asked _ _ _ _ c.is_found.ensures c.if-is_found.false c.requires.0 c.requires.1 c.requires.2

pub returns : goal.returns
returns c =
    rw (first-added c.args.path.now c.args.index c.args.slots c.args.m.now c.is_found.ensures c.if-is_found.false)
    c.append_group.ensures
