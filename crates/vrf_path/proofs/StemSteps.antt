-- Lemmas for the functions of stems: their answers, by what their searches found.
use Rattle.std.specs.Prelude.{◌≡◌, refl, List, ◌++◌, ℕ, zero, suc, ◌<◌, ◌≤◌, min, length, Some}
use Rattle.std.specs.Prelude.{Option as Maybe}
use Rattle.std.proofs.Common.{sym, ap, ◌∙◌, arith}
use Rattle.std.proofs.Math.Nat.{min-eq_left, min-eq_right}
use Rattle.vrf_bitio.proofs.Laws.Cases.{by_order}
use Rattle.std.proofs.Math.Option.{Option, none, some}
use Prim.Native.Char.{code}
use Rattle.vrf_path.specs.Text.{last_below}
use Rattle.vrf_path.specs.Stems.{cuts_below, digits_from, digit_stems}
use Rattle.vrf_path.specs.Answers.{stems_after, stems_from, StemAnswer}
use Rattle.vrf_path.proofs.Laws.Text.{last_within}
use Rattle.vrf_path.proofs.Laws.Leaf.{last-is}
use Rattle.vrf_path.proofs.Laws.Stems.{cut_at, cuts-last, cuts-past, rule-cut}
use Rattle.vrf_path.specs.declared.Phase.TheVariants.{Underscore}
use Rattle.vrf_path.specs.declared.Stem.{Stem}

-- an answer for equal stems
pub renamed : {name : List ℕ} {l m : List (List ℕ)} {s : Maybe Stem} → l ≡ m → StemAnswer name m s → StemAnswer name l s
renamed e a = record { stems = e ∙ a.stems; within = a.within; rule = a.rule }

-- the cuts and the stems after them, by the result of the search for `_`
following : (name : List ℕ) (n : ℕ) {o : Option ℕ} → last_below (code "_") name n ≡ o → stems_after name n Underscore ≡ cut_at name o ++ digit_stems name (digits_from name (length name))
following name n e = ap (λ (l : List (List ℕ)). l ++ digit_stems name (digits_from name (length name))) (cuts-last name n ∙ ap (cut_at name) e)

module _ (name : List ℕ) (n : ℕ) {i : ℕ} (e : last_below (code "_") name n ≡ some i) where
  -- cut at the last `_`
  pub cut : n ≤ length name → 0 < i → StemAnswer name (stems_after name n Underscore) (Some record { len = i; phase = Underscore })
  cut h hi = record { stems = following name n e ∙ above i hi; within = omega (arith, last_within (code "_") name n e); rule = rule-cut name _ (last-is (code "_") name n e).0 }
    where
      above : (i : ℕ) → 0 < i → cut_at name (some i) ++ digit_stems name (digits_from name (length name)) ≡ stems_from name (Some record { len = i; phase = Underscore })
      above zero l = absurd (omega arith)
      above (suc i) l = refl

  pub cut-first : i ≤ 0 → stems_after name n Underscore ≡ digit_stems name (digits_from name (length name))
  cut-first hi = let z : i ≡ 0 = omega arith in following name n (e ∙ ap some z)

pub cut-none : (name : List ℕ) (n : ℕ) → last_below (code "_") name n ≡ none → stems_after name n Underscore ≡ digit_stems name (digits_from name (length name))
cut-none name n e = following name n e

-- there is no cut past the end
pub from_end : (name : List ℕ) (n : ℕ) → stems_after name n Underscore ≡ stems_after name (min n (length name)) Underscore
from_end name n =
    by_order (length name) n
    (λ h. ap (λ (c : List (List ℕ)). c ++ digit_stems name (digits_from name (length name))) (cuts-past name n h ∙ ap (cuts_below name) (sym (min-eq_right h))))
    (λ h. ap (λ (k : ℕ). stems_after name k Underscore) (sym (min-eq_left (omega arith))))
