-- The contract of `check_book_window`, the checks before a call that reads a window.
use Rattle.std.specs.Prelude.{Bool, true, false, List, ℕ, Result}
use Rattle.std.specs.Borrow.{Bor}
use Rattle.vrf_bitio.specs.Reading.{Read, refused}
use Rattle.vrf_bitio.specs.Window.{window}
use Rattle.vrf_bitio.specs.Answers.{Opens}
use Rattle.vrf_bitio.specs.declared.BitReader.{BitReader}
use Rattle.vrf_bitio.specs.declared.Refusal.{Refusal}
use Rattle.vrf_store.specs.Check.{check}

-- 2 if the book fails its check, otherwise the answer x of the window's checks
abbrev pub window_after_check : Bool → Read (ℕ × ℕ) → Read (ℕ × ℕ)
window_after_check true x = x
window_after_check false x = refused 2 0 0

pub record CheckedWindow (m : List ℕ) (s : Bor (List ℕ)) (first count : ℕ) (r : Result BitReader Refusal) : Type 0 where
  pub answer : Opens s (window_after_check (check m) (window s.now first count)) r
