-- `vrf_store::texts::other_half_at` satisfies its contract: the halves are adjacent, so the other half begins one length before or after.
use Rattle.std.proofs.Common.{sym, ◌∙◌, arith}
use Rattle.vrf_store.specs.Store.{allowances_of, header_of}
use Rattle.vrf_store.proofs.Laws.Memory.Regions.{half-within}
use Rattle.vrf_store.proofs.Laws.Texts.Compacted.{half-following, half-before}
use Rattle.vrf_store.proofs.texts.other_half_at.Goals as goal

pub overflow_add-result : goal.overflow_add-result
overflow_add-result c =
    let m = c.args.m.now in
    omega (arith, half-within (allowances_of m) (header_of m).half)

pub returns-then-half-eq0 : goal.returns-then-half-eq0
returns-then-half-eq0 c =
    let m = c.args.m.now in
    omega (arith, half-following (allowances_of m) (header_of m).half (sym c.half.ensures ∙ c.if-half-eq0.true))

pub overflow_sub-result : goal.overflow_sub-result
overflow_sub-result c = omega (arith, half-before (allowances_of c.args.m.now) _ (λ q. c.if-half-eq0.false (c.half.ensures ∙ q)) c.requires.1)

pub returns : goal.returns
returns c = omega (arith, half-before (allowances_of c.args.m.now) _ (λ q. c.if-half-eq0.false (c.half.ensures ∙ q)) c.requires.1)
