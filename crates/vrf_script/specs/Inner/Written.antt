-- A lent buffer after a text was written into it, as far as it fits (`Answers`, `src/answers.rt`).
use Rattle.std.specs.Prelude.{◌≡◌, List, ℕ, ◌+◌, ◌-◌, length, take}
use Rattle.vrf_bitio.specs.Pasted.{pasted}

-- `new` is `old` with as much of the text as fits written from place `at` on, and `to` is the place after it
pub record WrittenAt (old : List ℕ) (at : ℕ) (text : List ℕ) (new : List ℕ) (to : ℕ) : Type 0 where
  pub bytes : new ≡ pasted old at (take (length old - at) text)
  pub place : to ≡ at + length (take (length old - at) text)
