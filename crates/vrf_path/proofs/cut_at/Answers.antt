-- `vrf_path::cut_at` satisfies its contract.
use mathlib.Core.Path.{sym, ◌∙◌}
use native.Mathlib.Omega.{arith}
use lib.ListN.{length}
use lib.Seq.{take_all}
use Rattle.vrf_path.proofs.Laws.Text.{ends-length}
use Rattle.vrf_path.proofs.Laws.Base.{cut-there, cut-not}
use Rattle.vrf_path.proofs.cut_at.Goals as goal

pub overflow_sub-result : goal.overflow_sub-result
overflow_sub-result c = ends-length _ _ (sym c.ends_with.ensures ∙ c.if-ends_with.true)

pub returns-then-ends_with : goal.returns-then-ends_with
returns-then-ends_with c = (cut-there _ _ (sym c.ends_with.ensures ∙ c.if-ends_with.true), omega arith)

pub returns : goal.returns
returns c =
    let a = c.args in
    (take_all (length a.t.now) a.t.now (omega arith) ∙ cut-not a.p.now a.t.now (sym c.ends_with.ensures ∙ c.if-ends_with.false), omega arith)
