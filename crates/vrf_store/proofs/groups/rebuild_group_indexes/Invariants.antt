-- The first g groups are in the indexes.
use Rattle.vrf_store.specs.Inner.Groups.{MoreIndexed}
use Rattle.vrf_store.proofs.groups.rebuild_group_indexes.Given as goal

abbrev pub invariant-loop-g : goal.invariant-loop-g
invariant-loop-g l = MoreIndexed l.initial.m l.m 0 l.g
