-- The contract of `tally` and of each function that prints a part of its text.
use Rattle.std.specs.Prelude.{◌≡◌, List, ℕ, ◌+◌, ◌≤◌, length}
use Rattle.vrf_bitio.specs.Pasted.{pasted}

-- the text is in the buffer from place `at` on, all other bytes are as they were, and r is the place after the text
pub record Printed (text before : List ℕ) (at : ℕ) (after : List ℕ) (r : ℕ) : Type 0 where
  pub count : r ≡ at + length text
  pub fits : r ≤ length before
  pub bytes : after ≡ pasted before at text
