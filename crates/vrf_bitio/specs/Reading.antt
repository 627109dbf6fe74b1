-- A reading takes a position and the whole bytes left there. It answers a value with the position after it and the bytes left there, or a
-- refusal: its number and its details a and b. A refused reading answers no position, so it moves nothing (document 01, Bits).
use Rattle.std.specs.Prelude.{List, ℕ}

pub data Read (A : Type 0) : Type 0 where
  ok : A → ℕ → List ℕ → Read A
  refused : ℕ → ℕ → ℕ → Read A

abbrev pub Reader : Type 0 → Type 0
Reader A = ℕ → List ℕ → Read A

unfoldable pub return : {A : Type 0} → A → Reader A
return a pos l = ok a pos l

-- the current position, with nothing read
unfoldable pub position : Reader ℕ
position pos l = ok pos pos l

-- continues with f after a value; after a refusal nothing more is read
unfoldable pub bind_read : {A B : Type 0} → (A → Reader B) → Read A → Read B
bind_read f (ok a p m) = f a p m
bind_read f (refused n a b) = refused n a b

-- the reading r, then the reading that f makes of its value
infixl 20 ◌>>=◌
unfoldable pub ◌>>=◌ : {A B : Type 0} → Reader A → (A → Reader B) → Reader B
◌>>=◌ r f pos l = bind_read f (r pos l)
