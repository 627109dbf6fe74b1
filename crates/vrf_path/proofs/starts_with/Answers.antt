-- `vrf_path::starts_with` satisfies its contract.
use mathlib.Core.Path.{sym}
use Rattle.vrf_path.specs.Text.{starts_with}
use Rattle.vrf_path.proofs.Laws.Text.{starts-short}
use Rattle.vrf_path.proofs.starts_with.Goals as goal

pub returns-then-text-n : goal.returns-then-text-n
returns-then-text-n c = sym (starts-short _ _ c.if-text-n.true)

pub returns : goal.returns
unfolding starts_with
returns c = c.same.ensures
