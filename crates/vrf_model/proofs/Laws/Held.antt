-- Laws about what is held: sums over lists; `passed` finds no allowance exactly if the content is within its allowances, and such content is
-- kept.
use Rattle.std.specs.Prelude.{◌≡◌, Bool, true, false, cond, ltb, replicate}
use Rattle.std.proofs.Math.Path.{refl}
use mathlib.Core.List.{List, [], ◌∷◌, ◌++◌}
use Rattle.std.proofs.Math.Option.{Option, none, some}
use Prim.Native.Nat.{ℕ, zero, suc, ◌+◌, ◌≤◌}
use Rattle.std.proofs.Math.Nat.{zero-add}
use Rattle.std.proofs.Common.{add-zero, le-ltb, ltb-false}
use native.Mathlib.Omega.{arith}
use Rattle.std.proofs.Math.ListN.{length-append}
use Rattle.vrf_model.specs.Book.{Guid, Group, Allowances, Content, Increments, sum, held_fields, held_text, passed}
use Rattle.vrf_model.specs.Setting.{done, unless_passed, keep}
use Rattle.vrf_model.specs.Lawful.{WithinAllowances}

-- ---- sums

module _ {A : Type 0} (f : A → ℕ) where
  pub sum-append : (l m : List A) → sum f (l ++ m) ≡ sum f l + sum f m
  unfolding sum
  sum-append [] m = rw zero-add
  sum-append (a ∷ l) m = rw (sum-append l m) (omega arith)

  pub sum-last : (l : List A) (a : A) → sum f (l ++ (a ∷ [])) ≡ sum f l + f a
  unfolding sum
  sum-last l a = rw (sum-append l (a ∷ []), add-zero)

  pub sum-none : {a : A} (n : ℕ) → f a ≡ 0 → sum f (replicate n a) ≡ 0
  unfolding sum
  sum-none zero e = refl
  sum-none (suc n) e = rw (e, sum-none n e)

-- ---- within the allowances

-- one test of `passed`
not-passed : (top n which : ℕ) (next : Option ℕ) → cond (ltb top n) (some which) next ≡ none → (n ≤ top) × (next ≡ none)
not-passed top n which next e = go (ltb top n) refl e
  where
    go : (b : Bool) → ltb top n ≡ b → cond b (some which) next ≡ none → (n ≤ top) × (next ≡ none)
    go true eb e = absurd (let z : ◌≡◌ {A = ℕ} 0 1 = cc in omega arith)
    go false eb e = (ltb-false top n eb, e)

pub passed-within : (c : Content) → passed c ≡ none → WithinAllowances c
unfolding passed
passed-within c e =
    let guids = not-passed _ _ _ _ e in
    let groups = not-passed _ _ _ _ guids.1 in
    let fields = not-passed _ _ _ _ groups.1 in
    let text = not-passed _ _ _ _ fields.1 in
    record { guids = guids.0; groups = groups.0; fields = fields.0; text = text.0 }

pub within-passed : (c : Content) → WithinAllowances c → passed c ≡ none
unfolding passed
within-passed c w = rw (le-ltb _ _ w.guids, le-ltb _ _ w.groups, le-ltb _ _ w.fields, le-ltb _ _ w.text)

pub keep-within : {A : Type 0} (x : A) (c : Content) (t : Increments) → WithinAllowances c → keep x c t ≡ done x c t
unfolding keep unless_passed
keep-within x c t w = rw (within-passed c w)

-- the content with the allowances a and these lists
abbrev pub listed : Allowances → List Guid → List Group → Content
listed a guids groups = record { allowed = a; guids = guids; groups = groups }

-- the first records or groups of lists within the allowances are within them too
module _ (a : Allowances) where
  pub guids-within : (l m : List Guid) (groups : List Group) → WithinAllowances (listed a (l ++ m) groups) → WithinAllowances (listed a l groups)
  unfolding held_fields held_text
  guids-within l m groups w =
      let n = simp length-append at w.guids in
      let t = simp sum-append at w.text in
      record { guids = omega arith; groups = w.groups; fields = w.fields; text = omega arith }

  pub groups-within : (guids : List Guid) (l m : List Group) → WithinAllowances (listed a guids (l ++ m)) → WithinAllowances (listed a guids l)
  unfolding held_fields held_text
  groups-within guids l m w =
      let n = simp length-append at w.groups in
      let f = simp sum-append at w.fields in
      let t = simp sum-append at w.text in
      record { guids = w.guids; groups = omega arith; fields = omega arith; text = omega arith }
