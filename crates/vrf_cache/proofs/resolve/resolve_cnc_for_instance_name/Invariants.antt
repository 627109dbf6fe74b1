-- The stems not yet tried find what all stems of the name find.
use Rattle.std.proofs.Common.{◌≡◌}
use Rattle.std.specs.List.{All}
use Rattle.vrf_path.proofs.Laws.Left.{stems_left}
use Rattle.vrf_model.specs.Lookup.{first_claim, stems_leaves, resolve_cnc}
use Rattle.vrf_store.specs.Inner.Stepped.{held}
use Rattle.vrf_cache.proofs.Laws.Resolve.{Triable}
use Rattle.vrf_cache.proofs.resolve.resolve_cnc_for_instance_name.Given as goal

abbrev pub invariant-loop-stem : goal.invariant-loop-stem
invariant-loop-stem l =
    (resolve_cnc l.name (held l.m).groups ≡ first_claim (held l.m).groups (stems_leaves (stems_left l.stem-iterator))) × All Triable (stems_left l.stem-iterator)
