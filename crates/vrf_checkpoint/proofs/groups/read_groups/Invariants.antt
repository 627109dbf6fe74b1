use Rattle.std.specs.Prelude.{◌*◌, ◌≤◌}
use Rattle.vrf_model.specs.Block.{block_group}
use Rattle.vrf_checkpoint.proofs.Laws.Sums.{SumLeft}
use Rattle.vrf_checkpoint.proofs.groups.read_groups.Given as goal

abbrev pub invariant-loop : goal.invariant-loop
invariant-loop l = record {
  sum : SumLeft (λ _. block_group) l.n l.fn.reader l.fn.m l.counter l.at l.m l.fields;
  few : l.fields ≤ 65536 * l.counter;
}
