-- What a path lookup and a leaf's claim mean (document 01, The book), stated without the searches that `last_place` and `leaf_claim` make.
use Rattle.std.specs.Prelude.{◌≡◌, Bool, true, false, List, ℕ, ◌<◌, length, get_or}
use Rattle.vrf_model.specs.Book.{Group}
use Rattle.vrf_model.specs.Lookup.{place_or, Claim, absent, ambiguous, claimed, has_leaf}

-- ---- path lookup: the last group having the key

-- the element at place i passes the test p, and no later one does; d is the default past the end
pub record LastAt {A : Type 0} (p : A → Bool) (l : List A) (i : ℕ) : Type 0 where
  pub below : i < length l
  pub passes : (d : A) → p (get_or l i d) ≡ true
  pub later : (j : ℕ) → i < j → j < length l → (d : A) → p (get_or l j d) ≡ false

-- ---- a leaf's claim

-- the group at a place has the leaf l
abbrev pub HasLeafAt : List ℕ → List Group → ℕ → Type 0
HasLeafAt l groups i = place_or (has_leaf l) false groups i ≡ true

-- several groups have the leaf: at least these two
pub record Several (l : List ℕ) (groups : List Group) : Type 0 where
  pub one : ℕ
  pub other : ℕ
  pub apart : one < other
  pub has_one : HasLeafAt l groups one
  pub has_other : HasLeafAt l groups other

-- the claim is the group if one group has the leaf, ambiguous if several do, else absent
abbrev pub ClaimIs : List ℕ → List Group → Claim → Type 0
ClaimIs l groups absent = (i : ℕ) → HasLeafAt l groups i → ⊥
ClaimIs l groups (claimed i) = HasLeafAt l groups i × ((j : ℕ) → HasLeafAt l groups j → j ≡ i)
ClaimIs l groups ambiguous = Several l groups
