-- `vrf_table::GroupRows::leaf_hit` satisfies its contract.
use Rattle.vrf_table.specs.TextIndex.{leaf_hit}
use Rattle.vrf_table.proofs.GroupRows.leaf_hit.Goals as goal

pub returns : goal.returns
unfolding leaf_hit
returns c = cc
