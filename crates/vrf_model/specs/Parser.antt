-- Readers that change a book: readings of bytes and steps on the content, one after another. A refused reader leaves all it took before the
-- refused step.
use Rattle.std.specs.Prelude.{List, ℕ, zero, suc, ◌+◌}
use Rattle.vrf_bitio.specs.Reading.{Read, ok, refused, Reader}
use Rattle.vrf_model.specs.Book.{Content, Increments, add_increments}
use Rattle.vrf_model.specs.Setting.{Step, done, refuses}

-- `parsed`: a value, the position after it, the bytes left there, the content then held and what was counted so far. `failed`: a refusal's
-- number, a and b, with the content held and what was counted before the refused step
pub data Parsed (A : Type 0) : Type 0 where
  parsed : A → ℕ → List ℕ → Content → Increments → Parsed A
  failed : ℕ → ℕ → ℕ → Content → Increments → Parsed A

-- from a position, the bytes there, the content and what was counted so far
abbrev pub Parser : Type 0 → Type 0
Parser A = ℕ → List ℕ → Content → Increments → Parsed A

unfoldable pub return : {A : Type 0} → A → Parser A
return a pos l c t = parsed a pos l c t

unfoldable pub fail : {A : Type 0} → ℕ → ℕ → ℕ → Parser A
fail n a b pos l c t = failed n a b c t

unfoldable pub bind_parsed : {A B : Type 0} → (A → Parser B) → Parsed A → Parsed B
bind_parsed f (parsed a p l c t) = f a p l c t
bind_parsed f (failed n a b c t) = failed n a b c t

infixl 20 ◌>>=◌
unfoldable pub ◌>>=◌ : {A B : Type 0} → Parser A → (A → Parser B) → Parser B
◌>>=◌ r f pos l c t = bind_parsed f (r pos l c t)

-- a reading leaves the content as it is
unfoldable pub parsed_read : {A : Type 0} → Content → Increments → Read A → Parsed A
parsed_read c t (ok a p l) = parsed a p l c t
parsed_read c t (refused n a b) = failed n a b c t

unfoldable pub read : {A : Type 0} → Reader A → Parser A
read r pos l c t = parsed_read c t (r pos l)

-- a step leaves the position as it is
unfoldable pub parsed_step : {A : Type 0} → ℕ → List ℕ → Content → Increments → Step A → Parsed A
parsed_step pos l c t (done a c' t') = parsed a pos l c' (add_increments t t')
parsed_step pos l c t (refuses n a b) = failed n a b c t

unfoldable pub step : {A : Type 0} → (Content → Step A) → Parser A
step s pos l c t = parsed_step pos l c t (s c)

-- ---- sequences of readers

-- a reader n times, one after another
unfoldable pub times : ℕ → Parser (Unit {0}) → Parser (Unit {0})
times zero r = return tt
times (suc n) r = do
  u ← r
  times n r

-- the readers r i, r (i + 1), and so on, n of them; it answers the sum of their answers
unfoldable pub sum_from : ℕ → ℕ → (ℕ → Parser ℕ) → Parser ℕ
sum_from zero i r = return 0
sum_from (suc n) i r = do
  a ← r i
  b ← sum_from n (i + 1) r
  return (a + b)
