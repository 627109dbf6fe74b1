-- Laws about `Each`: what holds of each element of a list, when lists are joined or one element is replaced.
use Rattle.std.specs.Prelude.{List, [], ◌∷◌, ◌++◌, ℕ, zero, suc, ◌<◌, length, get_or, set, replicate}
use Rattle.std.proofs.Common.{le_of_suc-le-suc, not-suc-le-zero}
use Rattle.vrf_model.specs.Lawful.{Each, nil, cons}

module _ {A : Type 0} {P : A → Type 0} where
  pub each_append : {l m : List A} → Each P l → Each P m → Each P (l ++ m)
  each_append nil k = k
  each_append (cons h t) k = cons h (each_append t k)

  -- it holds of an element in the middle
  pub each-middle : (l : List A) (a : A) (m : List A) → Each P (l ++ (a ∷ m)) → P a
  each-middle [] a m (cons h t) = h
  each-middle (x ∷ l) a m (cons h t) = each-middle l a m t

  pub each_set : {l : List A} {a : A} → Each P l → P a → (i : ℕ) → Each P (set l i a)
  each_set nil k i = nil
  each_set (cons h t) k zero = cons k t
  each_set (cons h t) k (suc i) = cons h (each_set t k i)

  pub each-replicate : (a : A) → P a → (n : ℕ) → Each P (replicate n a)
  each-replicate a k zero = nil
  each-replicate a k (suc n) = cons k (each-replicate a k n)

  -- it holds of the element at a place
  pub each_at : {l : List A} → Each P l → (i : ℕ) (d : A) → i < length l → P (get_or l i d)
  each_at nil i d k = absurd (not-suc-le-zero k)
  each_at (cons h t) zero d k = h
  each_at (cons h t) (suc i) d k = each_at t i d (le_of_suc-le-suc k)

  -- it holds at any place, if it holds of the default d past the end too
  pub each_or : {l : List A} {d : A} → Each P l → P d → (i : ℕ) → P (get_or l i d)
  each_or nil k i = k
  each_or (cons h t) k zero = h
  each_or (cons h t) k (suc i) = each_or t k i

  -- what holds at every place holds of each element
  pub or-each : (l : List A) (d : A) → ((i : ℕ) → P (get_or l i d)) → Each P l
  or-each [] d h = nil
  or-each (a ∷ l) d h = cons (h 0) (or-each l d (λ i. h (suc i)))
