-- The contract of `one_from`, which counts the bytes of a packed number.
use Rattle.std.specs.Prelude.{ℕ, cond, nat_lt}

-- 1 if n is at least `least`, otherwise 0
unfoldable pub one_from : ℕ → ℕ → ℕ
one_from least n = cond (nat_lt n least) 0 1
