-- `vrf_table::mix` satisfies its contract.
use Rattle.std.proofs.Common.{refl, arith}
use Rattle.vrf_table.specs.TextIndex.{mixed}
use Rattle.vrf_table.proofs.mix.Goals as goal

pub returns : goal.returns
unfolding mixed
returns c = (refl, omega arith)
