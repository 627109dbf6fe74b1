-- Laws for `joined_bucket` and `leaf_bucket_of`: what their answers mean.
use Rattle.std.specs.Prelude.{◌≡◌, ℕ, ◌-◌, List, length, take, drop, ◌≢◌, refl}
use Rattle.std.proofs.Math.Option.{Option, none, some}
use Rattle.vrf_path.specs.Leaf.{leaf}
use Rattle.vrf_model.specs.Lookup.{Claim as Claims}
use Rattle.vrf_table.specs.Inner.Answers.{claim}
use Rattle.vrf_table.specs.declared.Claim.{Claim}
use Rattle.vrf_table.specs.declared.Claim.TheVariants.{Absent, Ambiguous, Only}
use Rattle.vrf_store.specs.Inner.Groups.{unless_shared, joined_by}
use Rattle.vrf_store.proofs.Laws.Check.Steps.{rest_part}

-- a leaf joins its bucket unless its claim is ambiguous
pub not-shared : (r : Claim) (h : ℕ) → (r ≢ Ambiguous) → some h ≡ unless_shared (claim r) h
unfolding unless_shared
not-shared Absent h ne = refl
not-shared Ambiguous h ne = absurd (ne refl)
not-shared (Only e) h ne = refl

-- a path's leaf, if it has one, is `&path[i..]`
module _ (find : List ℕ → Claims) (β : List ℕ → ℕ) (path : List ℕ) where
  pub leaf-joins : (i : ℕ) {o : Option ℕ} → leaf path ≡ some (drop i path) → o ≡ unless_shared (find (take (length path - i) (drop i path))) (β (take (length path - i) (drop i path))) → o ≡ joined_by find β (leaf path)
  unfolding joined_by
  leaf-joins i el eo = rw el (rw (rest_part path i) at eo)

  pub no-leaf-joins : leaf path ≡ none → none ≡ joined_by find β (leaf path)
  unfolding joined_by
  no-leaf-joins el = rw el
