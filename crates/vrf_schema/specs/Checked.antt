-- The checks before every exported call (document 01, Where each check stands): 2 if the lent book fails its check, then what the check of
-- the caller's text answers.
use Rattle.std.specs.Prelude.{Bool, true, false, List, ℕ, Result}
use Rattle.vrf_bitio.specs.declared.Refusal.{Refusal}
use Rattle.vrf_text.specs.Text.{CallerText, refusal}
use Rattle.vrf_text.specs.Answers.{CallerAnswer}
use Rattle.vrf_store.specs.Check.{check}

-- 2 if the book fails its check, otherwise the answer x of the text's check
abbrev pub text_after_check : Bool → CallerText → CallerText
text_after_check true x = x
text_after_check false x = refusal 2 0 0

-- d is the answer of both checks, for a call on the memory m whose text's check answers x
pub record CheckedText (m : List ℕ) (x : CallerText) (d : Result (Unit {0}) Refusal) : Type 0 where
  pub answer : CallerAnswer (text_after_check (check m) x) d
