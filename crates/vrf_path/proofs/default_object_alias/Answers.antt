-- The default alias by the cases of its definition.
use Rattle.std.proofs.Common.{sym}
use Rattle.vrf_path.specs.Keys.{default_prefix}
use Rattle.vrf_path.proofs.Laws.Keys.{default-stripped, default_none, default-prefixed}
use Rattle.vrf_path.proofs.default_object_alias.Goals as goal

pub returns-then-starts_with : goal.returns-then-starts_with
unfolding default_prefix
returns-then-starts_with c = default-stripped _ (sym c.if-starts_with.ensures)

pub returns-then-has_path_separator : goal.returns-then-has_path_separator
unfolding default_prefix
returns-then-has_path_separator c =
    default_none _ (sym c.if-starts_with.ensures) (sym c.if-has_path_separator.ensures)

pub returns : goal.returns
unfolding default_prefix
returns c =
    default-prefixed _ (sym c.if-starts_with.ensures) (sym c.if-has_path_separator.ensures)
