-- `vrf_path::same` satisfies its contract: texts of different lengths differ, and the two loops compare the others.
use mathlib.Core.Path.{sym}
use Rattle.vrf_path.proofs.Laws.Text.{same-lengths}
use Rattle.vrf_path.proofs.same.Goals as goal

pub returns-then-a-b : goal.returns-then-a-b
returns-then-a-b c = sym (same-lengths _ _ c.if-a-b.true)
