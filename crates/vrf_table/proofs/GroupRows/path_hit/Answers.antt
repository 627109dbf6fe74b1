-- `vrf_table::GroupRows::path_hit` satisfies its contract.
use Rattle.vrf_table.specs.TextIndex.{path_hit}
use Rattle.vrf_table.proofs.GroupRows.path_hit.Goals as goal

pub returns : goal.returns
unfolding path_hit
returns c = cc
