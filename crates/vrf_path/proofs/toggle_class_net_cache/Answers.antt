-- The toggle by the cases of its definition.
use Rattle.std.proofs.Common.{sym, arith}
use Rattle.vrf_path.specs.Toggle.{class_net_cache}
use Rattle.vrf_path.proofs.Laws.Toggle.{toggle-stripped, toggle-empty, toggle-appended}
use Rattle.vrf_path.proofs.toggle_class_net_cache.Goals as goal

pub returns-then-key-gt14 : goal.returns-then-key-gt14
unfolding class_net_cache
returns-then-key-gt14 c = (toggle-stripped _ (sym c.if-ends_with.ensures) c.if-key-gt14.true, omega arith)

pub returns-then-ends_with : goal.returns-then-ends_with
unfolding class_net_cache
returns-then-ends_with c = toggle-empty _ (sym c.if-ends_with.ensures) c.if-key-gt14.false

pub returns : goal.returns
unfolding class_net_cache
returns c = toggle-appended _ (sym c.if-ends_with.ensures)
