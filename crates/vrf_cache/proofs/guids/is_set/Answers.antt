-- The record has this path and this outer.
use Rattle.vrf_cache.proofs.Laws.Guids.{has_both}
use Rattle.vrf_cache.proofs.guids.is_set.Goals as goal

pub returns-then-same : goal.returns-then-same
returns-then-same c = rw (has_both c.args.path.now c.args.outer c.requires, ← c.guid_path.ensures, ← c.guid_outer.ensures, ← c.same.ensures, c.if-same.true)

pub returns-else-same : goal.returns-else-same
returns-else-same c = rw (has_both c.args.path.now c.args.outer c.requires, ← c.guid_path.ensures, ← c.same.ensures, c.if-same.false)
