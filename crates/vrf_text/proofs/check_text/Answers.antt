-- `vrf_text::check_text` satisfies its contract.
use mathlib.Core.Path.{sym, ◌∙◌}
use borrow.Author.Tests.{lt-ltb, le-ltb}
use Rattle.vrf_text.specs.Text.{caller_text}
use Rattle.vrf_text.proofs.check_text.Goals as goal

pub returns-then-not-is_utf8 : goal.returns-then-not-is_utf8
unfolding caller_text
returns-then-not-is_utf8 c = rw (sym c.is_utf8.ensures ∙ c.if-not-is_utf8.true)

pub returns-then-n : goal.returns-then-n
unfolding caller_text
returns-then-n c = rw (sym c.is_utf8.ensures ∙ c.if-not-is_utf8.false, lt-ltb _ _ c.if-n.true)

pub returns : goal.returns
unfolding caller_text
returns c = rw (sym c.is_utf8.ensures ∙ c.if-not-is_utf8.false, le-ltb _ _ c.if-n.false)
