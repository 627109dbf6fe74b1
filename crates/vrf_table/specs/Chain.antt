-- Chained hashing (docs/LAYOUT.md, Indexes). A table has the entries 0 to n - 1, oldest first. A pointer is 0 for no entry, and otherwise
-- an
-- entry's number plus 1. The head of a bucket points to its newest entry. The link of an entry points to an older entry.
use Rattle.std.specs.Prelude.{ℕ, zero, suc, Bool, cond, ◌==◌}
use Rattle.std.proofs.Math.Option.{Option, none, some}

-- the first entry below n that passes the test, starting at pointer p and following links. A pointer past the entries ends the walk, and so
-- does a link that does not point to an older entry. So a wrong head or link can hide an entry, but never yields one that fails the test
unfoldable pub walk : (ℕ → Bool) → (ℕ → ℕ) → ℕ → ℕ → Option ℕ
walk hit link zero p = none
walk hit link (suc e) p = cond (p == suc e) (cond (hit e) (some e) (walk hit link e (link e))) (walk hit link e p)

-- the last number below n that passes the test
unfoldable pub last_below : (ℕ → Bool) → ℕ → Option ℕ
last_below hit zero = none
last_below hit (suc e) = cond (hit e) (some e) (last_below hit e)
