-- Case distinctions for proofs about definitions with `cond`: one case for each value of the test. Used by most crates.
use Rattle.std.specs.Prelude.{Bool, true, false, cond, ◌||◌, ◌≡◌, refl, ℕ, ◌≤◌, ◌<◌, leb}
use Rattle.std.proofs.Common.{arith, leb-true, leb-false}

-- the two values of a test, for a goal without a `cond`
pub by-test {ℓ} : {P : Type ℓ} (t : Bool) → (t ≡ true → P) → (t ≡ false → P) → P
by-test true f g = f refl
by-test false f g = g refl

pub by_cond {ℓ} : {A : Type 0} (P : A → Type ℓ) (t : Bool) {x y : A} → (t ≡ true → P x) → (t ≡ false → P y) → P (cond t x y)
by_cond P true f g = f refl
by_cond P false f g = g refl

-- the cases of a `cond` whose test is the comparison a ≤ k
pub at_most {ℓ} : {A : Type 0} (P : A → Type ℓ) (a k : ℕ) {x y : A} → (a ≤ k → P x) → (k < a → P y) → P (cond (leb a k) x y)
at_most P a k f g = by_cond P (leb a k) (λ e. f (leb-true a k e)) (λ e. g (leb-false a k e))

-- a case distinction on the order of two numbers, for a goal without a `cond`
pub by_order {ℓ} : {P : Type ℓ} (a k : ℕ) → (a ≤ k → P) → (k < a → P) → P
by_order {P} a k f g = at_most (λ (_ : Bool). P) a k {x = true} {y = true} f g

-- an impossible case: `cc` shows 0 ≡ 1 wherever two different constructors would be equal
pub clash {ℓ} : {P : Type ℓ} → ◌≡◌ {A = ℕ} 0 1 → P
clash z = absurd (omega arith)

-- an `or` that is false
pub neither : (a b : Bool) → (a || b) ≡ false → (a ≡ false) × (b ≡ false)
neither true b e = clash (cc)
neither false b e = (refl, e)
