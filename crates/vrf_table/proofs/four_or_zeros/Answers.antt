-- `vrf_table::four_or_zeros` satisfies its contract: the four bytes make one number.
use Rattle.std.proofs.Common.{arith}
use Rattle.vrf_path.specs.Text.{four}
use Rattle.vrf_table.proofs.four_or_zeros.Goals as goal

pub returns : goal.returns
unfolding four
returns c = (omega arith, omega arith)
