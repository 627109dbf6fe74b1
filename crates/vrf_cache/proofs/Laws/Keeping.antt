-- `keep` by what the code tests: a step is done if its counts pass no allowance, otherwise it is refused with 42. Used for
-- each step that adds or changes something.
use Rattle.std.specs.Prelude.{◌≡◌, ◌≢◌, refl, Bool, true, false, cond, List, ℕ, ◌≤◌, ltb, Err}
use Rattle.std.proofs.Common.{sym, ap, ◌∙◌, arith}
use Rattle.std.proofs.Math.Option.{Option, none, some, get_or}
use Rattle.vrf_bitio.specs.declared.Refusal.{Refusal}
use Rattle.vrf_model.specs.Book.{Allowances, Content, Increments, passed}
use Rattle.vrf_model.specs.Setting.{unless_passed, keep}
use Rattle.vrf_model.proofs.Laws.Held.{passed-within}
use Rattle.vrf_cache.specs.Inner.Taken.{HoldsContent, Taken, NotTaken}
use Rattle.vrf_cache.specs.Inner.Passed.{passed_by, FitsBy}
use Rattle.vrf_cache.proofs.Laws.Passed.{HeldCounts, passed-counts}

-- these counts are within the allowances
pub record CountsAllowed (b : Allowances) (guids groups fields text : ℕ) : Type 0 where
  pub guids-fit : guids ≤ b.guids
  pub groups-fit : groups ≤ b.groups
  pub fields_fit : fields ≤ b.fields
  pub text-fits : text ≤ b.text

-- an allowance never has the number 0
none-passed : (b : Allowances) (guids groups fields text : ℕ) → get_or (passed_by b guids groups fields text) 0 ≡ 0 → passed_by b guids groups fields text ≡ none
unfolding passed_by
none-passed b guids groups fields text = go (ltb b.guids guids) (ltb b.groups groups) (ltb b.fields fields) (ltb b.text text)
  where
    by : Bool → Bool → Bool → Bool → Option ℕ
    by p q r s = cond p (some 1) (cond q (some 2) (cond r (some 3) (cond s (some 4) none)))

    go : (p q r s : Bool) → get_or (by p q r s) 0 ≡ 0 → by p q r s ≡ none
    go true q r s e = absurd (omega (arith, e))
    go false true r s e = absurd (omega (arith, e))
    go false false true s e = absurd (omega (arith, e))
    go false false false true e = absurd (omega (arith, e))
    go false false false false e = refl

-- a number other than 0 is the number of an allowance
some-passed : (o : Option ℕ) → get_or o 0 ≢ 0 → o ≡ some (get_or o 0)
some-passed none ne = absurd (ne refl)
some-passed (some w) ne = refl

-- c is the content that the step would leave, with these counts; w is the allowance that they pass
module _ {c : Content} {guids groups fields text : ℕ} {w : Option ℕ} {b : Allowances} (k : HeldCounts c guids groups fields text) (same : c.allowed ≡ b) (e : w ≡ passed_by b guids groups fields text) where
  all-passed : passed c ≡ passed_by b guids groups fields text
  all-passed = passed-counts c k ∙ ap (λ (x : Allowances). passed_by x guids groups fields text) same

  nothing-passed : w ≡ none → passed c ≡ none
  nothing-passed z = all-passed ∙ sym e ∙ z

  pub allows : w ≡ none → CountsAllowed b guids groups fields text
  allows z =
      let within = passed-within c (nothing-passed z) in
      record {
        guids-fit = rw (k.guids-are, same) at within.guids;
        groups-fit = rw (k.groups-are, same) at within.groups;
        fields_fit = rw (k.fields-are, same) at within.fields;
        text-fits = rw (k.text-is, same) at within.text;
      }

  module _ {A : Type 0} (a : A) (t : Increments) {m m' : List ℕ} where
    pub kept : w ≡ none → HoldsContent m m' c t → Taken (keep a c t) a m m'
    unfolding keep unless_passed
    kept z h = record { content = c; counted = t; step = rw (nothing-passed z); holds = h }

    pub full : {r : Refusal} → FitsBy w (Err r) → m' ≡ m → NotTaken (keep a c t) r m m'
    unfolding keep unless_passed
    full f s = let other = f.1 in record { step = rw (all-passed ∙ sym e ∙ f.0, other.0, other.1); same = s }
