-- The contract of the functions in `src/spell.rt`.
use Rattle.std.specs.Prelude.{◌≡◌, ℕ, List, length, take}

-- the buffer after the n bytes of a text were written at its start
pub record SpelledInto (text before after : List ℕ) (n : ℕ) : Type 0 where
  pub bytes : take n after ≡ text
  pub count : n ≡ length text
  pub long : length after ≡ length before
