-- Laws about places: the last place at which a test holds, the element at a place, and lists with distinct numbers.
use Rattle.std.specs.Prelude.{◌≡◌, Bool, eqb, length, get_or, set, take}
use Rattle.std.proofs.Math.Path.{refl, ap}
use Rattle.std.proofs.Common.{sym, subst, ◌∙◌, le_of_suc-le-suc, not-suc-le-zero, arith, length-append, ne_eqb}
use Rattle.std.proofs.Math.Bool.{true, false}
use mathlib.Core.List.{List, [], ◌∷◌, ◌++◌}
use Rattle.std.proofs.Math.Option.{Option, none, some}
use Prim.Native.Nat.{ℕ, zero, suc, ◌<◌, zero-le, suc-le-suc}
use Rattle.std.proofs.Math.Seq.{get_or-append_seam}
use Rattle.std.proofs.lemmas.Bool.{eqb-false}
use Rattle.vrf_model.specs.Lookup.{rest_or_head, last_place, place_or}
use Rattle.vrf_model.specs.Setting.{alter}
use Rattle.vrf_model.specs.Claims.{LastAt}
use Rattle.vrf_model.specs.Lawful.{Each, nil, cons, Distinct}
use Rattle.vrf_model.proofs.Laws.Each.{each-middle, each_at}

-- ---- the last place

module _ {A : Type 0} (p : A → Bool) where
  -- if there is no such place, no element passes
  abbrev Last : List A → Option ℕ → Type 0
  Last l none = Each (λ a. p a ≡ false) l
  Last l (some i) = LastAt p l i

  last : (l : List A) → Last l (last_place p l)
  unfolding last_place rest_or_head
  last [] = nil
  last (a ∷ l) = go (p a) refl (last_place p l) (last l)
    where
      go : (b : Bool) → p a ≡ b → (o : Option ℕ) → Last l o → Last (a ∷ l) (rest_or_head b o)
      go b e (some i) h = record {
        below = suc-le-suc h.below;
        passes = h.passes;
        later = elim [ zero ↦ λ m. absurd (not-suc-le-zero m) | suc j ↦ λ m n. h.later j (le_of_suc-le-suc m) (le_of_suc-le-suc n) ];
      }
      go true e none h = record {
        below = suc-le-suc zero-le;
        passes = λ d. e;
        later = elim [ zero ↦ λ m. absurd (not-suc-le-zero m) | suc j ↦ λ m n d. each_at h j d (le_of_suc-le-suc n) ];
      }
      go false e none h = cons e h

  pub last_place-none : (l : List A) → last_place p l ≡ none → Each (λ a. p a ≡ false) l
  last_place-none l e = subst (Last l) e (last l)

  pub last_place-some : (l : List A) {i : ℕ} → last_place p l ≡ some i → LastAt p l i
  last_place-some l e = subst (Last l) e (last l)

  -- one more element at the end, which passes or not
  module _ (a : A) where
    pub last_place-hit : (l : List A) → p a ≡ true → last_place p (l ++ (a ∷ [])) ≡ some (length l)
    unfolding last_place rest_or_head
    last_place-hit [] e = rw e
    last_place-hit (x ∷ l) e = rw (last_place-hit l e)

    pub last_place-miss : (l : List A) → p a ≡ false → last_place p (l ++ (a ∷ [])) ≡ last_place p l
    unfolding last_place rest_or_head
    last_place-miss [] e = rw e
    last_place-miss (x ∷ l) e = rw (last_place-miss l e)

-- ---- the element at a place

pub place_or-at : {A B : Type 0} (f : A → B) (b : B) (l : List A) (i : ℕ) (d : A) → i < length l → place_or f b l i ≡ f (get_or l i d)
unfolding place_or
place_or-at f b [] i d h = absurd (not-suc-le-zero h)
place_or-at f b (a ∷ l) zero d h = refl
place_or-at f b (a ∷ l) (suc i) d h = place_or-at f b l i d (le_of_suc-le-suc h)

-- a place in the first j elements of a list
pub place_or-take : {A B : Type 0} (f : A → B) (b : B) (l : List A) (j i : ℕ) → i < j → place_or f b (take j l) i ≡ place_or f b l i
unfolding place_or
place_or-take f b l zero i h = absurd (not-suc-le-zero h)
place_or-take f b [] (suc j) i h = refl
place_or-take f b (a ∷ l) (suc j) zero h = refl
place_or-take f b (a ∷ l) (suc j) (suc i) h = place_or-take f b l j i (le_of_suc-le-suc h)

-- the last place of a list
pub place_or-last : {A B : Type 0} (f : A → B) (b : B) (l : List A) (a : A) → place_or f b (l ++ (a ∷ [])) (length l) ≡ f a
place_or-last f b l a = place_or-at f b (l ++ (a ∷ [])) (length l) a (rw length-append (omega arith)) ∙ ap f (get_or-append_seam l a [] a)

-- ---- one element changed

module _ {A : Type 0} (f : A → A) where
  -- a place that is there: the element there is replaced
  pub alter-set : (l : List A) (i : ℕ) (d : A) → i < length l → alter f l i ≡ set l i (f (get_or l i d))
  unfolding alter
  alter-set [] i d h = refl
  alter-set (a ∷ l) zero d h = refl
  alter-set (a ∷ l) (suc i) d h = ap (λ (m : List A). a ∷ m) (alter-set l i d (le_of_suc-le-suc h))

  pub alter-last : (l : List A) (a : A) → alter f (l ++ (a ∷ [])) (length l) ≡ l ++ (f a ∷ [])
  unfolding alter
  alter-last [] a = refl
  alter-last (x ∷ l) a = ap (λ (m : List A). x ∷ m) (alter-last l a)

  pub length-alter : (l : List A) (i : ℕ) → length (alter f l i) ≡ length l
  unfolding alter
  length-alter [] i = refl
  length-alter (a ∷ l) zero = refl
  length-alter (a ∷ l) (suc i) = ap suc (length-alter l i)

-- ---- distinct numbers

eqb-turned : (m n : ℕ) → eqb m n ≡ false → eqb n m ≡ false
eqb-turned m n e = ne_eqb n m (λ q. eqb-false m n e (sym q))

module _ {A : Type 0} (f : A → ℕ) where
  -- no element has the number n
  abbrev pub Without : ℕ → List A → Type 0
  Without n l = Each (λ b. eqb (f b) n ≡ false) l

  -- a number is not found before the element that has it
  pub not-before : (l : List A) (a : A) (m : List A) → Distinct f (l ++ (a ∷ m)) → last_place (λ b. eqb (f b) (f a)) l ≡ none
  unfolding last_place rest_or_head
  not-before [] a m h = refl
  not-before (x ∷ l) a m h = rw (not-before l a m h.1, eqb-turned (f a) (f x) (each-middle l a m (last_place-none _ _ h.0)))

  -- one more element at the end, with a new number
  pub distinct_append : (a : A) {l : List A} → Distinct f l → Without (f a) l → Distinct f (l ++ (a ∷ []))
  unfolding last_place
  distinct_append a h nil = (refl, tt)
  distinct_append a h (cons {a = x} {l = l} k t) = (last_place-miss _ a l (eqb-turned (f x) (f a) k) ∙ h.0, distinct_append a h.1 t)
