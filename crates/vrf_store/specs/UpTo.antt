-- Lists, tests and sums over the numbers below n. The other files use them for the rows of a table.
use Rattle.std.specs.Prelude.{ℕ, zero, suc, ◌+◌, Bool, true, ◌&&◌, List, [], ◌∷◌, ◌++◌}

-- f 0, f 1, and so on to f (n - 1)
unfoldable pub up_to : {A : Type 0} → (ℕ → A) → ℕ → List A
up_to f zero = []
up_to f (suc n) = up_to f n ++ (f n ∷ [])

unfoldable pub all_below : (ℕ → Bool) → ℕ → Bool
all_below ok zero = true
all_below ok (suc n) = all_below ok n && ok n

unfoldable pub sum_below : (ℕ → ℕ) → ℕ → ℕ
sum_below f zero = 0
sum_below f (suc n) = sum_below f n + f n
