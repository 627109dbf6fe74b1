-- A lent slice after bytes were written into it.
use Rattle.std.specs.Prelude.{List, ◌++◌, ℕ, ◌+◌, length, take, drop}

-- the list l with v written over its elements from place `at` on
unfoldable pub pasted : List ℕ → ℕ → List ℕ → List ℕ
pasted l at v = take at l ++ (v ++ drop (at + length v) l)
