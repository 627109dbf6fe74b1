-- `vrf_store::parts::half_at` satisfies its contract: it makes the same test as `half_at`.
use Rattle.std.proofs.Common.{◌+◌, sym, ◌∙◌, ap₂, eq-eqb, ne_eqb}
use Rattle.vrf_words.specs.Words.{word}
use Rattle.vrf_store.specs.Store.{half_at}
use Rattle.vrf_store.proofs.parts.half_at.Goals as goal

pub returns-then-half-eq0 : goal.returns-then-half-eq0
unfolding half_at
returns-then-half-eq0 c =
    let first = eq-eqb (word c.args.m.now 10) 0 (sym c.half.ensures ∙ c.if-half-eq0.true) in
    rw first c.texts_at-at.ensures

pub returns : goal.returns
unfolding half_at
returns c =
    let second = ne_eqb (word c.args.m.now 10) 0 (λ e. c.if-half-eq0.false (c.half.ensures ∙ e)) in
    rw second (ap₂ ◌+◌ c.texts_at-at.ensures c.text_allowed.ensures.0)
