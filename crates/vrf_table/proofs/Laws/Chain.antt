-- Laws about walks and about the last number that passes a test. All proofs about lookups use them.
use Rattle.std.specs.Prelude.{◌≡◌, ℕ, zero, suc, ◌<◌, ◌≤◌, Bool, true, false, cond, ◌==◌, ◌≢◌}
use Rattle.std.proofs.Math.Path.{refl}
use Rattle.std.proofs.Common.{sym, ap, ◌∙◌, not-suc-le-zero, eqb-true, eq-eqb, ne_eqb}
use Rattle.std.proofs.Math.Option.{Option, none, some}
use native.Mathlib.Omega.{arith}
use Rattle.std.proofs.lemmas.Bool.{eqb-false}
use Rattle.vrf_bitio.proofs.Laws.Cases.{by_cond, clash}
use Rattle.vrf_table.specs.Chain.{walk, last_below}

pub by_equal : {P : Type 0} (a b : ℕ) → (a ≡ b → P) → ((a ≢ b) → P) → P
by_equal {P} a b f g = by_cond (λ (_ : Bool). P) (a == b) {x = true} {y = true} (λ e. f (eqb-true a b e)) (λ e. g (eqb-false a b e))

-- ---- one step of a walk

module _ (hit : ℕ → Bool) (link : ℕ → ℕ) where
  -- the pointer points to the newest entry
  pub walk_at : (e : ℕ) → walk hit link (suc e) (suc e) ≡ cond (hit e) (some e) (walk hit link e (link e))
  unfolding walk
  walk_at e = rw (eq-eqb (suc e) (suc e) refl)

  -- the pointer points to another entry
  pub walk-miss : (e p : ℕ) → (p ≢ suc e) → walk hit link (suc e) p ≡ walk hit link e p
  unfolding walk
  walk-miss e p h = rw (ne_eqb p (suc e) h)

  -- the pointer is past the entries
  pub walk-past : (n p : ℕ) → n < p → walk hit link n p ≡ none
  unfolding walk
  walk-past zero p h = refl
  walk-past (suc e) p h = walk-miss e p (λ q. omega (arith, q)) ∙ walk-past e p (omega arith)

  -- the pointer is 0
  pub walk-nil : (n : ℕ) → walk hit link n 0 ≡ none
  unfolding walk
  walk-nil zero = refl
  walk-nil (suc e) = walk-miss e 0 (λ q. omega (arith, q)) ∙ walk-nil e

  -- entries after the one pointed to do not matter
  pub walk-skip : (n p : ℕ) → p ≤ n → walk hit link n p ≡ walk hit link p p
  walk-skip zero p h = let z : p ≡ 0 = omega arith in rw z
  walk-skip (suc e) p h = by_equal p (suc e) (λ q. rw q) (λ q. walk-miss e p q ∙ walk-skip e p (omega (arith, q)))

-- an entry that is found is below n and passes the test
abbrev pub Passes : (ℕ → Bool) → ℕ → Option ℕ → Type 0
Passes hit n none = Unit {0}
Passes hit n (some e) = (e < n) × (hit e ≡ true)

module _ (hit : ℕ → Bool) where
  more : (n : ℕ) (o : Option ℕ) → Passes hit n o → Passes hit (suc n) o
  more n none h = tt
  more n (some e) h = (omega (arith, h.0), h.1)

  pub walk-passes : (link : ℕ → ℕ) (n p : ℕ) → Passes hit n (walk hit link n p)
  unfolding walk
  walk-passes link zero p = tt
  walk-passes link (suc e) p =
      by_cond (Passes hit (suc e)) (p == suc e)
      (λ q. by_cond (Passes hit (suc e)) (hit e) (λ h. (omega arith, h)) (λ h. more e (walk hit link e (link e)) (walk-passes link e (link e))))
      (λ q. more e (walk hit link e p) (walk-passes link e p))

  pub last_below-passes : (n : ℕ) → Passes hit n (last_below hit n)
  unfolding last_below
  last_below-passes zero = tt
  last_below-passes (suc e) = by_cond (Passes hit (suc e)) (hit e) (λ h. (omega arith, h)) (λ h. more e (last_below hit e) (last_below-passes e))

  -- if no number passes, no walk finds one
  pub walk_none : (link : ℕ → ℕ) (n p : ℕ) → last_below hit n ≡ none → walk hit link n p ≡ none
  unfolding walk last_below
  walk_none link zero p h = refl
  walk_none link (suc e) p h = go (hit e) refl h (walk_none link e)
    where
      go : (b : Bool) → hit e ≡ b → cond b (some e) (last_below hit e) ≡ none → ((p : ℕ) → last_below hit e ≡ none → walk hit link e p ≡ none) → walk hit link (suc e) p ≡ none
      go true q k ih = clash cc
      go false q k ih = by_cond (λ (o : Option ℕ). o ≡ none) (p == suc e) (λ r. rw (q, ih (link e) k)) (λ r. ih p k)

-- one more number
pub last_below-suc : (hit : ℕ → Bool) (e : ℕ) → last_below hit (suc e) ≡ cond (hit e) (some e) (last_below hit e)
unfolding last_below
last_below-suc hit e = refl

-- equal tests and equal links give equal walks
pub walk-ext : (hit hit' : ℕ → Bool) (link link' : ℕ → ℕ) (n p : ℕ) → ((e : ℕ) → e < n → hit e ≡ hit' e) → ((e : ℕ) → e < n → link e ≡ link' e) → walk hit link n p ≡ walk hit' link' n p
unfolding walk
walk-ext hit hit' link link' zero p h l = refl
walk-ext hit hit' link link' (suc e) p h l =
    let h' : (i : ℕ) → i < e → hit i ≡ hit' i = λ i k. h i (omega (arith, k)) in
    let l' : (i : ℕ) → i < e → link i ≡ link' i = λ i k. l i (omega (arith, k)) in
    rw (h e (omega arith), l e (omega arith), walk-ext hit hit' link link' e (link' e) h' l', walk-ext hit hit' link link' e p h' l')

pub last_below-ext : (hit hit' : ℕ → Bool) (n : ℕ) → ((e : ℕ) → e < n → hit e ≡ hit' e) → last_below hit n ≡ last_below hit' n
unfolding last_below
last_below-ext hit hit' zero h = refl
last_below-ext hit hit' (suc e) h = rw (h e (omega arith), last_below-ext hit hit' e (λ i k. h i (omega (arith, k))))

-- a number that passes, with none after it that passes, is the last
pub last_below-last : (hit : ℕ → Bool) (n e : ℕ) → e < n → hit e ≡ true → ((j : ℕ) → e < j → j < n → hit j ≡ false) → last_below hit n ≡ some e
unfolding last_below
last_below-last hit zero e h k later = absurd (not-suc-le-zero h)
last_below-last hit (suc n) e h k later = by_equal e n (λ q. rw (sym q, k)) (λ q. rw (later n (omega (arith, q)) (omega arith)) (last_below-last hit n e (omega (arith, q)) k (λ j a b. later j a (omega (arith, b)))))

pub last_below-none : (hit : ℕ → Bool) (n : ℕ) → ((j : ℕ) → j < n → hit j ≡ false) → last_below hit n ≡ none
unfolding last_below
last_below-none hit zero h = refl
last_below-none hit (suc n) h = rw (h n (omega arith)) (last_below-none hit n (λ j k. h j (omega (arith, k))))

-- if e passes, the last number that passes is e or a later one
pub last_below-reach : (hit : ℕ → Bool) (n e : ℕ) → e < n → hit e ≡ true → (f : ℕ) × ((last_below hit n ≡ some f) × (e ≤ f))
unfolding last_below
last_below-reach hit zero e h k = absurd (not-suc-le-zero h)
last_below-reach hit (suc n) e h k =
    by_cond (λ (o : Option ℕ). (f : ℕ) × ((o ≡ some f) × (e ≤ f))) (hit n) (λ q. (n, (refl, omega arith)))
    (λ q. last_below-reach hit n e (by_equal e n (λ r. clash (let z : true ≡ false = sym k ∙ (ap hit r ∙ q) in cc)) (λ r. omega (arith, r))) k)
