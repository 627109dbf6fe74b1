-- The contracts of `read_fstring` and `check_text` determine the answer: two programs that satisfy one of them give the same answer and
-- leave the same reader and target. (`is_utf8` has an equation with `utf8` as its contract, so nothing is left to show.)
use Rattle.std.specs.Prelude.{◌≡◌, refl, List, ℕ, Result, Ok, Err}
use Rattle.std.proofs.Common.{sym, ap, ◌∙◌}
use Rattle.vrf_bitio.specs.Reading.{Read}
use Rattle.vrf_bitio.proofs.Laws.Cases.{clash}
use Rattle.vrf_bitio.proofs.Laws.Determined.{same-details, same-value, same-refusal}
use Rattle.vrf_bitio.specs.declared.BitReader.{BitReader}
use Rattle.vrf_bitio.specs.declared.Refusal.{Refusal}
use Rattle.vrf_text.specs.Text.{CallerText}
use Rattle.vrf_text.specs.Answers.{TextAnswer, CallerAnswer}

module _ (r d e : BitReader) (x : Read (List ℕ)) (before after after' : List ℕ) where
  pub text-determined : (p q : Result ℕ Refusal) → TextAnswer r d x before after p → TextAnswer r e x before after' q → (p ≡ q) × ((d ≡ e) × (after ≡ after'))
  text-determined (Ok n) (Ok m) (v, (g, (k, w))) (v', (g', (k', w'))) =
      let same = same-value x g g' in
      (ap Ok (cc (same.0, k, k')), (same.1, cc (same.0, w, w')))
  text-determined (Err p) (Err q) t u = (ap Err (same-refusal x t.0 u.0), (t.1.0 ∙ sym u.1.0, t.1.1 ∙ sym u.1.1))
  text-determined (Ok n) (Err q) t u = clash (cc (t.1.0.read, u.0))
  text-determined (Err p) (Ok n) t u = clash (cc (t.0, u.1.0.read))

pub caller-determined : (x : CallerText) (p q : Result (Unit {0}) Refusal) → CallerAnswer x p → CallerAnswer x q → p ≡ q
caller-determined x (Ok u) (Ok v) t t' = refl
caller-determined x (Err p) (Err q) t u = ap Err (same-details p q (cc (t, u)) (cc (t, u)) (cc (t, u)))
caller-determined x (Ok u) (Err q) t v = clash (cc (t, v))
caller-determined x (Err p) (Ok u) t v = clash (cc (t, v))
