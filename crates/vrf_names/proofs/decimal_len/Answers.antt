-- `vrf_names::decimal_len` satisfies its contract: a number has one digit more than its logarithm.
use Rattle.std.proofs.Common.{arith}
use Rattle.vrf_names.proofs.Laws.Names.{counted}
use Rattle.vrf_names.proofs.decimal_len.Goals as goal

pub returns : goal.returns
returns c = (
  counted c.ilog10.result c.args.n (rw c.max.ensures at c.ilog10.ensures.power_le) (rw c.max.ensures at c.ilog10.ensures.next_power_gt),
  omega (arith, c.ilog10.ensures.bound),
)
