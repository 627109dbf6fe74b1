-- The path is tried first.
use Rattle.std.proofs.Common.{arith}
use Rattle.std.proofs.lemmas.Grind.{common_steps}
use Rattle.vrf_model.specs.Lookup.{found_or_next}
use Rattle.vrf_store.specs.Inner.Stepped.{held}
use Rattle.vrf_cache.proofs.Laws.Resolve.{keys-turn}
use Rattle.vrf_cache.proofs.resolve.find_class_net_cache_key.Goals as goal

pub returns : goal.returns
unfolding found_or_next
returns c = rw (keys-turn (held c.args.m.now).groups c.args.path.now, ← c.find_or_toggled.ensures) (grind (arith, common_steps))
