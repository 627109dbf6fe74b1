-- After an iteration, one more group is written.
use Rattle.vrf_model.specs.Writer.{encode_group}
use Rattle.vrf_store.specs.Store.{header_of, store_of}
use Rattle.vrf_writer.specs.Inner.Groups.{group_at}
use Rattle.vrf_writer.proofs.Laws.Each.{Sent}
use Rattle.vrf_writer.proofs.groups.put_groups.Given as goal

abbrev pub invariant-loop-g : goal.invariant-loop-g
invariant-loop-g l = Sent encode_group (group_at (store_of l.m)) (header_of l.m).groups l.initial.out l.out l.at l.g
