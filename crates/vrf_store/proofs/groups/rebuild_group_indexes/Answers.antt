-- `vrf_store::groups::rebuild_group_indexes` satisfies its contract.
use Rattle.std.proofs.Common.{arith}
use Rattle.vrf_store.proofs.Laws.Groups.Rebuild.{joined-refl, joined-trans, next-indexable, rebuilt}
use Rattle.vrf_store.proofs.groups.rebuild_group_indexes.Goals as goal

pub loop-g-init : goal.loop-g-init
loop-g-init c = joined-refl c.clear_heads.new.m 0

pub index_group-requires : goal.index_group-requires
index_group-requires c =
    next-indexable c.loop-g.g c.requires.0 c.requires.1 (joined-trans c.clear_heads.ensures c.loop-g.invariant) (omega (arith, c.groups-n.ensures))

pub loop-g-preserved : goal.loop-g-preserved
loop-g-preserved c = joined-trans c.loop-g.invariant c.index_group.ensures

pub returns : goal.returns
returns c =
    rebuilt c.requires.0 c.requires.1 (joined-trans c.clear_heads.ensures c.loop-g.invariant) (omega (arith, c.groups-n.ensures))
