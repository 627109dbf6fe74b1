-- The core alias by the cases of its definition.
use Rattle.std.proofs.Common.{sym}
use Rattle.vrf_path.specs.Keys.{core_segment, characters_root}
use Rattle.vrf_path.proofs.Laws.Keys.{core-cut, core-inserted, core-none}
use Rattle.vrf_path.proofs.core_alias.Goals as goal

pub returns-in-Some : goal.returns-in-Some
unfolding core_segment
returns-in-Some c = core-cut _ (sym c.in-Some.ensures)

pub returns-then-starts_with : goal.returns-then-starts_with
unfolding core_segment characters_root
returns-then-starts_with c = core-inserted _ (sym c.in_default.ensures) (sym c.if-starts_with.ensures)

pub returns : goal.returns
unfolding core_segment characters_root
returns c = core-none _ (sym c.in_default.ensures) (sym c.if-starts_with.ensures)
