-- An alias is at most 9 bytes longer than its path.
use Rattle.std.proofs.Common.{arith}
use Rattle.vrf_cache.proofs.Laws.Resolve.{at-most, core-fits}
use Rattle.vrf_cache.proofs.resolve.find_core_alias.Goals as goal

pub find_alias-requires : goal.find_alias-requires
find_alias-requires c = (c.requires.0, at-most (omega (arith, c.requires.1)) _ (core-fits c.args.path.now c.core_alias.ensures.text))
