-- `vrf_table::last_turns` satisfies its contract.
use Rattle.vrf_table.specs.TextIndex.{four_turns, last_turns}
use Rattle.vrf_table.proofs.last_turns.Goals as goal

pub returns : goal.returns
unfolding last_turns four_turns
returns c = cc
