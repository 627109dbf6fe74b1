-- `vrf_table::eight` satisfies its contract: the eight bytes are the first two words of the rest.
use Rattle.std.proofs.Common.{arith}
use Rattle.vrf_table.proofs.Hashes.{eight-from}
use Rattle.vrf_table.proofs.eight.Goals as goal

pub returns : goal.returns
returns c =
    let start = c.args in
    eight-from start.t.now start.i (omega arith) c.get64.ensures
