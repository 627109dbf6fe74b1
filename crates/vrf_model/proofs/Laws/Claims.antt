-- `leaf_claim` gives the claim that Claims.antt defines: the group if one group has the leaf, ambiguous if several do, else absent.
use Rattle.std.specs.Prelude.{◌≡◌, Bool, true, false, cond, ◌↔◌}
use Rattle.std.proofs.Math.Path.{refl}
use Rattle.std.proofs.Common.{ap, subst, arith}
use mathlib.Core.List.{List, [], ◌∷◌, map}
use Prim.Native.Nat.{ℕ, zero, suc, zero-le, suc-le-suc}
use Rattle.vrf_bitio.proofs.Laws.Cases.{clash}
use Rattle.vrf_model.specs.Book.{Group}
use Rattle.vrf_model.specs.Lookup.{places_from, place_or, Claim, absent, ambiguous, claimed, has_leaf, claim_of_places, leaf_claim}
use Rattle.vrf_model.specs.Claims.{Several, ClaimIs}

-- ---- the claim in a list, from whether its head has the leaf and from the claim in its rest

unfoldable pub claim_with_head : Bool → Claim → Claim
claim_with_head true absent = claimed 0
claim_with_head true ambiguous = ambiguous
claim_with_head true (claimed i) = ambiguous
claim_with_head false absent = absent
claim_with_head false ambiguous = ambiguous
claim_with_head false (claimed i) = claimed (suc i)

shifted : {A : Type 0} (p : A → Bool) (i : ℕ) (l : List A) → places_from (suc i) p l ≡ map suc (places_from i p l)
unfolding places_from
shifted p i [] = refl
shifted p i (a ∷ l) = go (p a) (places_from (suc i) p l) (shifted p (suc i) l)
  where
    go : (b : Bool) {m : List ℕ} (n : List ℕ) → m ≡ map suc n → cond b (suc i ∷ m) m ≡ map suc (cond b (i ∷ n) n)
    go true n e = ap (λ (m : List ℕ). suc i ∷ m) e
    go false n e = e

with-head : (b : Bool) (l : List ℕ) → claim_of_places (cond b (0 ∷ map suc l) (map suc l)) ≡ claim_with_head b (claim_of_places l)
unfolding claim_of_places claim_with_head
with-head true [] = refl
with-head true (i ∷ []) = refl
with-head true (i ∷ j ∷ l) = refl
with-head false [] = refl
with-head false (i ∷ []) = refl
with-head false (i ∷ j ∷ l) = refl

pub claim-cons : (l : List ℕ) (g : Group) (gs : List Group) → leaf_claim l (g ∷ gs) ≡ claim_with_head (has_leaf l g) (leaf_claim l gs)
unfolding leaf_claim places_from
claim-cons l g gs = rw (shifted (has_leaf l) 0 gs) (with-head (has_leaf l g) (places_from 0 (has_leaf l) gs))

-- ---- the claim by places

module _ (l : List ℕ) where
  claims : (groups : List Group) → ClaimIs l groups (leaf_claim l groups)
  unfolding leaf_claim claim_of_places places_from claim_with_head place_or
  claims [] = λ i h. clash cc
  claims (g ∷ gs) = rw (claim-cons l g gs) (go (has_leaf l g) refl (leaf_claim l gs) (claims gs))
    where
      later : Several l gs → Several l (g ∷ gs)
      later s = record { one = suc s.one; other = suc s.other; apart = suc-le-suc s.apart; has_one = s.has_one; has_other = s.has_other }

      go : (b : Bool) → has_leaf l g ≡ b → (x : Claim) → ClaimIs l gs x → ClaimIs l (g ∷ gs) (claim_with_head b x)
      go true e absent h = (e, elim [ zero ↦ λ k. refl | suc j ↦ λ k. absurd (h j k) ])
      go true e (claimed i) h = record { one = 0; other = suc i; apart = suc-le-suc zero-le; has_one = e; has_other = h.0 }
      go true e ambiguous h = later h
      go false e absent h = elim [ zero ↦ λ k. clash (cc (e, k)) | suc i ↦ h i ]
      go false e (claimed i) h = (h.0, elim [ zero ↦ λ k. clash (cc (e, k)) | suc j ↦ λ k. ap suc (h.1 j k) ])
      go false e ambiguous h = later h

  -- no two of the three hold of the same groups
  only : (groups : List Group) (x y : Claim) → ClaimIs l groups x → ClaimIs l groups y → x ≡ y
  only groups absent absent h k = refl
  only groups absent (claimed i) h k = absurd (h i k.0)
  only groups absent ambiguous h k = absurd (h k.one k.has_one)
  only groups (claimed i) absent h k = absurd (k i h.0)
  only groups (claimed i) (claimed j) h k = ap claimed (k.1 i h.0)
  only groups (claimed i) ambiguous h k = absurd (omega (arith, k.apart, h.1 k.one k.has_one, h.1 k.other k.has_other))
  only groups ambiguous absent h k = absurd (k h.one h.has_one)
  only groups ambiguous (claimed j) h k = absurd (omega (arith, h.apart, k.1 h.one h.has_one, k.1 h.other h.has_other))
  only groups ambiguous ambiguous h k = refl

  pub leaf-claim : (groups : List Group) (x : Claim) → (leaf_claim l groups ≡ x) ↔ ClaimIs l groups x
  leaf-claim groups x = (λ e. subst (ClaimIs l groups) e (claims groups), λ h. only groups (leaf_claim l groups) x (claims groups) h)
