-- `vrf_path::leaf_base` satisfies its contract.
use mathlib.Core.Path.{sym, ap, ◌∙◌}
use Prim.Native.Nat.{◌≤◌}
use native.Mathlib.Omega.{arith}
use lib.ListN.{length-take}
use lib.Seq.{take-take}
use Rattle.vrf_path.specs.Toggle.{class_net_cache}
use Rattle.vrf_path.specs.Base.{class_base}
use Rattle.vrf_path.proofs.Laws.Base.{leaf-by-e, leaf-by-others}
use Rattle.vrf_path.proofs.leaf_base.Goals as goal

pub slice_bounds-class_base-end : goal.slice_bounds-class_base-end
slice_bounds-class_base-end c = rw length-take (omega (arith, c.cut_at-n.ensures.1))

pub returns-then-last_byte-eq101 : goal.returns-then-last_byte-eq101
unfolding class_net_cache
returns-then-last_byte-eq101 c =
    let l = c.args.l.now in
    let n = c.cut_at-n in
    let r = c.class_base.result in
    let few : r ≤ n.result = omega (arith, c.class_base.ensures.1, length-take n.result l) in
    (sym (take-take r n.result l few) ∙ c.class_base.ensures.0 ∙ ap class_base n.ensures.0 ∙ leaf-by-e l, omega (arith, few, n.ensures.1))

pub returns : goal.returns
returns c =
    let l = c.args.l.now in
    (c.class_base-2.ensures.0 ∙ leaf-by-others l (λ e. c.if-last_byte-eq101.false (c.last_byte.ensures ∙ e)), c.class_base-2.ensures.1)
