-- The names of the slots are added one after another.
use Rattle.std.proofs.Common.{arith}
use Rattle.vrf_store.specs.Inner.Stepped.{held}
use Rattle.vrf_cache.proofs.Laws.Groups.Replaced.{text-first, text-next, text-all, text-fits}
use Rattle.vrf_cache.proofs.groups.group_text.Goals as goal

pub loop-q-init : goal.loop-q-init
loop-q-init c = text-first (held c.args.m.now) c.args.e c.group_path.ensures

pub overflow_add-total : goal.overflow_add-total
overflow_add-total c = omega (arith, text-fits c.requires.0 c.requires.1 c.loop-q.invariant c.field_name.ensures (omega arith))

pub loop-q-preserved : goal.loop-q-preserved
loop-q-preserved c = text-next (held c.args.m.now) c.args.e c.loop-q.q c.loop-q.invariant c.field_name.ensures

pub returns : goal.returns
returns c = text-all c.requires.0 c.requires.1 c.loop-q.invariant (omega arith)
