-- `vrf_table::turn` satisfies its contract.
use Rattle.std.proofs.Common.{refl}
use Rattle.vrf_table.specs.TextIndex.{turn}
use Rattle.vrf_table.proofs.turn.Goals as goal

pub returns : goal.returns
unfolding turn
returns c = refl
