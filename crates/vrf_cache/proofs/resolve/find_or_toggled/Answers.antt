-- The key is tried first.
use Rattle.std.proofs.Common.{arith}
use Rattle.std.proofs.lemmas.Grind.{common_steps}
use Rattle.vrf_model.specs.Lookup.{found_or_next}
use Rattle.vrf_store.specs.Inner.Stepped.{held}
use Rattle.vrf_cache.proofs.Laws.Resolve.{toggle-turn}
use Rattle.vrf_cache.proofs.resolve.find_or_toggled.Goals as goal

pub returns : goal.returns
unfolding found_or_next
returns c = rw (toggle-turn (held c.args.m.now).groups c.args.key.now, ← c.find_path_place.ensures) (grind (arith, common_steps))
