-- `vrf_table::four_turns` satisfies its contract.
use Rattle.vrf_table.specs.TextIndex.{four_turns}
use Rattle.vrf_table.proofs.four_turns.Goals as goal

pub returns : goal.returns
unfolding four_turns
returns c = cc
