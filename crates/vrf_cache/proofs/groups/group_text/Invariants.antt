-- The path and the names of q slots are counted.
use Rattle.std.proofs.Common.{◌≡◌}
use Rattle.vrf_store.specs.Inner.Stepped.{held}
use Rattle.vrf_cache.proofs.Laws.Groups.Replaced.{text_up_to}
use Rattle.vrf_cache.proofs.groups.group_text.Given as goal

abbrev pub invariant-loop-q : goal.invariant-loop-q
invariant-loop-q l = l.total ≡ text_up_to (held l.m) l.e l.q
