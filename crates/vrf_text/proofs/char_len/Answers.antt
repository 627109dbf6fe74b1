-- `vrf_text::char_len` satisfies its contract: each answer follows from the tests before it.
use mathlib.Core.Path.{sym, ◌∙◌}
use Rattle.vrf_text.proofs.Chars.{one, too-low, too-high, two-pass, two-fail, third-fail, three-pass, three-fail, fourth-fail, four-pass, four-fail}
use Rattle.vrf_text.proofs.char_len.Goals as goal

pub returns-then-a-lt128 : goal.returns-then-a-lt128
returns-then-a-lt128 c = one _ c.if-a-lt128.true

pub returns-then-a-lt194 : goal.returns-then-a-lt194
returns-then-a-lt194 c = too-low _ c.if-a-lt128.false c.if-a-lt194.true

pub returns-then-within : goal.returns-then-within
returns-then-within c =
    two-pass _ c.if-a-lt194.false c.if-a-lt224.true (sym c.within.ensures ∙ c.if-within.true)

pub returns-else-within : goal.returns-else-within
returns-else-within c =
    two-fail _ c.if-a-lt194.false c.if-a-lt224.true (sym c.within.ensures ∙ c.if-within.false)

pub returns-then-not-within : goal.returns-then-not-within
returns-then-not-within c = third-fail _ c.if-a-lt224.false (sym c.within-2.ensures ∙ c.if-not-within.true)

pub returns-then-within-2 : goal.returns-then-within-2
returns-then-within-2 c =
    three-pass _ c.if-a-lt224.false c.if-a-lt240.true c.pick.ensures c.pick-then-a-lt240.ensures c.within-then-a-lt240.ensures (sym c.within-2.ensures ∙ c.if-not-within.false) c.if-within-2.true

pub returns-else-within-2 : goal.returns-else-within-2
returns-else-within-2 c =
    three-fail _ c.if-a-lt224.false c.if-a-lt240.true c.pick.ensures c.pick-then-a-lt240.ensures c.within-then-a-lt240.ensures c.if-within-2.false

pub returns-then-a-gt244 : goal.returns-then-a-gt244
returns-then-a-gt244 c = too-high _ c.if-a-gt244.true

pub returns-then-not-within-2 : goal.returns-then-not-within-2
returns-then-not-within-2 c =
    fourth-fail _ c.if-a-lt240.false c.if-a-gt244.false (sym c.within-2.ensures ∙ c.if-not-within.false) (sym c.within-3.ensures ∙ c.if-not-within-2.true)

pub returns-then-within-3 : goal.returns-then-within-3
returns-then-within-3 c =
    four-pass _ c.if-a-lt240.false c.if-a-gt244.false c.pick-2.ensures c.pick-3.ensures c.within-4.ensures (sym c.within-2.ensures ∙ c.if-not-within.false) (sym c.within-3.ensures ∙ c.if-not-within-2.false) c.if-within-3.true

pub returns-else-within-3 : goal.returns-else-within-3
returns-else-within-3 c =
    four-fail _ c.if-a-lt240.false c.if-a-gt244.false c.pick-2.ensures c.pick-3.ensures c.within-4.ensures c.if-within-3.false
