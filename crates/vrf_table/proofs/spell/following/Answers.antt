-- `vrf_table::spell::following` satisfies its contract.
use Rattle.vrf_table.proofs.Laws.Spelled.{part-following}
use Rattle.vrf_table.proofs.spell.following.Goals as goal

pub returns : goal.returns
returns c =
    part-following c.args.t.now c.args.k c.min-from.result c.min-from.ensures
