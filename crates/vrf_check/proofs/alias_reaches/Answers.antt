-- A key fits the scratch buffer.
use Rattle.std.proofs.Common.{arith}
use Rattle.vrf_table.proofs.Laws.Spelled.{key-short}
use Rattle.vrf_check.proofs.alias_reaches.Goals as goal

pub spell-k-requires : goal.spell-k-requires
spell-k-requires c = omega (arith, key-short c.args.path.now c.args.key, c.requires)
