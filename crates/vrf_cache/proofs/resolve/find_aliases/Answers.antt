-- The default alias is tried first.
use Rattle.std.proofs.Common.{sym, arith}
use Rattle.std.proofs.lemmas.Grind.{common_steps}
use Rattle.vrf_model.specs.Lookup.{found_or_next}
use Rattle.vrf_store.specs.Inner.Stepped.{held}
use Rattle.vrf_cache.proofs.Laws.Resolve.{alias-turn, at-most, default-fits}
use Rattle.vrf_cache.proofs.resolve.find_aliases.Goals as goal

pub find_alias-requires : goal.find_alias-requires
find_alias-requires c = (c.requires.0, at-most (omega (arith, c.requires.1)) _ (default-fits c.args.path.now c.default_object_alias.ensures.text))

pub returns : goal.returns
unfolding found_or_next
returns c = rw (alias-turn (held c.args.m.now).groups c.args.path.now c.default_object_alias.ensures.text (sym c.find_alias.ensures)) (grind (arith, common_steps))
