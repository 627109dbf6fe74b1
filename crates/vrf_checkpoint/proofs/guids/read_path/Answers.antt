-- `vrf_checkpoint::guids::read_path` satisfies its contract: the path of the kind.
use Rattle.std.proofs.Common.{arith, ne_eqb}
use Rattle.vrf_model.specs.Block.{by_table, path_of_kind}
use Rattle.vrf_reader.proofs.Laws.Simulates.{stays}
use Rattle.vrf_checkpoint.proofs.guids.read_path.Goals as goal

pub returns-in-0 : goal.returns-in-0
unfolding path_of_kind by_table
returns-in-0 c = λ table represents. rw c.in-0.is (c.read_place.ensures table represents)

pub returns-in-1 : goal.returns-in-1
unfolding path_of_kind by_table
returns-in-1 c = λ table represents. rw c.in-1.is (c.read_literal.ensures table represents)

pub returns-in_default : goal.returns-in_default
unfolding path_of_kind
returns-in_default c = λ table represents.
    rw (ne_eqb c.args.kind 0 (omega arith), ne_eqb c.args.kind 1 (omega arith)) (stays c.requires.good)
