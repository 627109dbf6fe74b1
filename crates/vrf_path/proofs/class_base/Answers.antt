-- `vrf_path::class_base` satisfies its contract.
use mathlib.Core.Path.{sym, ◌∙◌}
use native.Mathlib.Omega.{arith}
use lib.ListN.{length}
use lib.Seq.{take_all}
use Rattle.vrf_path.specs.Stems.{component, underscore_c}
use Rattle.vrf_path.proofs.Laws.Base.{class-by-t, class-by-C, class-by-others}
use Rattle.vrf_path.proofs.class_base.Goals as goal

pub returns-in-116 : goal.returns-in-116
unfolding component
returns-in-116 c =
    (c.cut_at.ensures.0 ∙ class-by-t _ (sym c.last_byte.ensures ∙ c.in-116.is), c.cut_at.ensures.1)

pub returns-in-67 : goal.returns-in-67
unfolding underscore_c
returns-in-67 c =
    (c.cut_at-in-67.ensures.0 ∙ class-by-C _ (sym c.last_byte.ensures ∙ c.in-67.is), c.cut_at-in-67.ensures.1)

pub returns-in_default : goal.returns-in_default
returns-in_default c =
    let t = c.args.t.now in
    (take_all (length t) t (omega arith) ∙ class-by-others t (λ e. c.in_default.in_default-own.rest.0.1 (c.last_byte.ensures ∙ e)) (λ e. c.in_default.in_default-own.rest.1 (c.last_byte.ensures ∙ e)), omega arith)
