-- `vrf_path::ends_with` satisfies its contract.
use mathlib.Core.Path.{sym}
use Rattle.vrf_path.proofs.Laws.Text.{ends-short}
use Rattle.vrf_path.proofs.Texts.{ends_at}
use Rattle.vrf_path.proofs.ends_with.Goals as goal

pub returns-then-text-p : goal.returns-then-text-p
returns-then-text-p c = sym (ends-short _ _ c.if-text-p.true)

pub returns : goal.returns
returns c = ends_at _ _ c.same.ensures
