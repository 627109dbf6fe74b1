-- `vrf_table::spell::join` satisfies its contract.
use Rattle.std.proofs.Common.{arith}
use Rattle.vrf_table.proofs.Laws.Spelled.{joined}
use Rattle.vrf_table.proofs.spell.join.Goals as goal

pub returns : goal.returns
returns c =
    let x = c.args in
    joined x.a.now x.b.now c.put_part.ensures c.put_part-2.ensures (omega arith) (omega arith)
