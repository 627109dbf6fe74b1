-- Laws about lists, tests and sums over the numbers below n.
use Rattle.std.specs.Prelude.{◌≡◌, ℕ, zero, suc, ◌+◌, ◌<◌, ◌≤◌, Bool, true, false, ◌&&◌, [], ◌∷◌, ◌++◌, length, replicate, ◌≢◌, slice_index_or, slice_set}
use Rattle.std.proofs.Math.Path.{refl, sym, ap}
use Rattle.std.proofs.Common.{◌∙◌, not-suc-le-zero, zero-add, add-one}
use mathlib.Core.List.{append_assoc, append-nil}
use Rattle.std.proofs.Math.Option.{Option, some}
use Rattle.std.proofs.Math.Nat.{add-zero}
use native.Mathlib.Omega.{arith}
use Rattle.std.proofs.Math.ListN.{replicate-append-replicate, length-append, get_or-append}
use Rattle.std.proofs.lemmas.List.{set-append_left, set_at, get_or_at}
use Rattle.vrf_bitio.proofs.Laws.Cases.{by_cond, clash}
use Rattle.vrf_model.specs.Book.{sum}
use Rattle.vrf_model.specs.Lookup.{last_place}
use Rattle.vrf_model.proofs.Laws.Places.{last_place-hit, last_place-miss}
use Rattle.vrf_model.proofs.Laws.Held.{sum-last}
use Rattle.vrf_table.specs.Chain.{last_below}
use Rattle.vrf_table.proofs.Laws.Chain.{by_equal}
use Rattle.vrf_store.specs.UpTo.{up_to, all_below, sum_below}

-- ---- lists

module _ {A : Type 0} where
  pub length-up_to : (f : ℕ → A) (n : ℕ) → length (up_to f n) ≡ n
  unfolding up_to
  length-up_to f zero = refl
  length-up_to f (suc n) = length-append (up_to f n) (f n ∷ []) ∙ rw (length-up_to f n) (omega arith)

  pub up_to-ext : (f g : ℕ → A) (n : ℕ) → ((e : ℕ) → e < n → f e ≡ g e) → up_to f n ≡ up_to g n
  unfolding up_to
  up_to-ext f g zero h = refl
  up_to-ext f g (suc n) h = rw (up_to-ext f g n (λ e k. h e (omega (arith, k))), h n (omega arith))

  pub get_d-up_to : (f : ℕ → A) (n e : ℕ) (d : A) → e < n → slice_index_or (up_to f n) e d ≡ f e
  unfolding up_to
  get_d-up_to f zero e d h = absurd (not-suc-le-zero h)
  get_d-up_to f (suc n) e d h = by_equal e n
      (λ q. rw q (get_or_at (up_to f n) (f n) [] d n (length-up_to f n)))
      (λ q. get_or-append (up_to f n) (f n ∷ []) d e (rw (length-up_to f n) (omega (arith, q))) ∙ get_d-up_to f n e d (omega (arith, q)))

  -- a list that differs at one number
  pub up_to-set : (f g : ℕ → A) (n i : ℕ) → i < n → ((e : ℕ) → e < n → (e ≢ i) → f e ≡ g e) → up_to g n ≡ slice_set (up_to f n) i (g i)
  unfolding up_to
  up_to-set f g zero i h k = absurd (not-suc-le-zero h)
  up_to-set f g (suc n) i h k = by_equal i n
      (λ q. rw (sym (up_to-ext f g n (λ e m. k e (omega (arith, m)) (λ z. omega (arith, m, z, q)))), q) (sym (set_at (up_to f n) (f n) [] (g n) n (length-up_to f n))))
      (λ q. let below : i < n = omega (arith, q) in
      let less : i < length (up_to f n) = rw (length-up_to f n) below in
      rw (up_to-set f g n i below (λ e m z. k e (omega (arith, m)) z), sym (k n (omega arith) (λ z. omega (arith, z, below)))) (sym (set-append_left (up_to f n) (f n ∷ []) i (g i) less)))

  -- a list that ends in k equal values
  pub up_to-rest : (f : ℕ → A) (d : A) (n k : ℕ) → ((i : ℕ) → i < k → f (n + i) ≡ d) → up_to f (n + k) ≡ up_to f n ++ replicate k d
  unfolding up_to
  up_to-rest f d n zero h = rw add-zero (sym (append-nil (up_to f n)))
  up_to-rest f d n (suc k) h =
      let next : n + suc k ≡ suc (n + k) = omega arith in
      let last : replicate k d ++ (d ∷ []) ≡ replicate (suc k) d = replicate-append-replicate k 1 d ∙ ap (λ (j : ℕ). replicate j d) (add-one k) in
      rw (next, up_to-rest f d n k (λ i l. h i (omega (arith, l))), h k (omega arith), append_assoc (up_to f n) (replicate k d) (d ∷ []), last)

  pub up_to-replicate : (f : ℕ → A) (n : ℕ) (d : A) → ((e : ℕ) → e < n → f e ≡ d) → up_to f n ≡ replicate n d
  unfolding up_to
  up_to-replicate f n d h = ap (up_to f) (sym (zero-add n)) ∙ up_to-rest f d 0 n (λ i k. ap f (zero-add i) ∙ h i k)

  pub last_place-up_to : (p : A → Bool) (f : ℕ → A) (n : ℕ) → last_place p (up_to f n) ≡ last_below (λ e. p (f e)) n
  unfolding up_to last_below last_place
  last_place-up_to p f zero = refl
  last_place-up_to p f (suc n) =
      by_cond (λ (o : Option ℕ). last_place p (up_to f n ++ (f n ∷ [])) ≡ o) (p (f n))
      (λ t. last_place-hit p (f n) (up_to f n) t ∙ ap some (length-up_to f n))
      (λ t. last_place-miss p (f n) (up_to f n) t ∙ last_place-up_to p f n)

-- ---- tests

pub and-true : (a b : Bool) → (a && b) ≡ true → (a ≡ true) × (b ≡ true)
and-true true b h = (refl, h)
and-true false b h = clash cc

pub all_below-each : (ok : ℕ → Bool) (n : ℕ) → all_below ok n ≡ true → (e : ℕ) → e < n → ok e ≡ true
unfolding all_below
all_below-each ok zero h e k = absurd (not-suc-le-zero k)
all_below-each ok (suc n) h e k =
    let both = and-true (all_below ok n) (ok n) h in
    by_equal e n (λ q. rw q both.1) (λ q. all_below-each ok n both.0 e (omega (arith, q)))

pub each-all_below : (ok : ℕ → Bool) (n : ℕ) → ((e : ℕ) → e < n → ok e ≡ true) → all_below ok n ≡ true
unfolding all_below
each-all_below ok zero h = refl
each-all_below ok (suc n) h = rw (each-all_below ok n (λ e k. h e (omega (arith, k))), h n (omega arith))

-- ---- sums

pub sum_below-ext : (f g : ℕ → ℕ) (n : ℕ) → ((e : ℕ) → e < n → f e ≡ g e) → sum_below f n ≡ sum_below g n
unfolding sum_below
sum_below-ext f g zero h = refl
sum_below-ext f g (suc n) h = rw (sum_below-ext f g n (λ e k. h e (omega (arith, k))), h n (omega arith))

pub sum_below-le : (f : ℕ → ℕ) (k n : ℕ) → k ≤ n → sum_below f k ≤ sum_below f n
unfolding sum_below
sum_below-le f k zero h = let z : k ≡ 0 = omega arith in rw z (omega arith)
sum_below-le f k (suc n) h = by_equal k (suc n) (λ q. rw q (omega arith)) (λ q. omega (arith, sum_below-le f k n (omega (arith, q))))

-- a sum that differs at one number
pub sum_below-set : (f g : ℕ → ℕ) (n i : ℕ) → i < n → ((e : ℕ) → e < n → (e ≢ i) → f e ≡ g e) → sum_below g n + f i ≡ sum_below f n + g i
unfolding sum_below
sum_below-set f g zero i h k = absurd (not-suc-le-zero h)
sum_below-set f g (suc n) i h k = by_equal i n
    (λ q. rw (sym (sum_below-ext f g n (λ e m. k e (omega (arith, m)) (λ z. omega (arith, m, z, q)))), q) (omega arith))
    (λ q. let below : i < n = omega (arith, q) in
    let same : f n ≡ g n = k n (omega arith) (λ z. omega (arith, z, below)) in
    let rest = sum_below-set f g n i below (λ e m z. k e (omega (arith, m)) z) in
    omega (arith, same, rest))

-- each term is at most the sum
pub sum_below-at : (f : ℕ → ℕ) (n e : ℕ) → e < n → f e ≤ sum_below f n
unfolding sum_below
sum_below-at f zero e h = absurd (not-suc-le-zero h)
sum_below-at f (suc n) e h = by_equal e n (λ q. rw q (omega arith)) (λ q. omega (arith, sum_below-at f n e (omega (arith, h, q))))

pub sum-up_to : {A : Type 0} (w : A → ℕ) (f : ℕ → A) (n : ℕ) → sum w (up_to f n) ≡ sum_below (λ e. w (f e)) n
unfolding up_to sum_below sum
sum-up_to w f zero = refl
sum-up_to w f (suc n) = sum-last w (up_to f n) (f n) ∙ rw (sum-up_to w f n)
