-- Contracts of the functions of `names`: texts and field names are read into the front of a scratch buffer.
use Rattle.std.specs.Prelude.{◌≡◌, List, ℕ, Result, Ok, Err, ◌≤◌, length, take}
use Rattle.vrf_bitio.specs.Reading.{Read}
use Rattle.vrf_bitio.specs.Answers.{Gave, Refuses}
use Rattle.vrf_bitio.specs.declared.BitReader.{BitReader}
use Rattle.vrf_bitio.specs.declared.Refusal.{Refusal}

-- the reading x gives a text, which is the first n bytes of the scratch buffer
pub record TextRead (r : BitReader) (x : Read (List ℕ)) (scratch : List ℕ) (n : ℕ) (d : BitReader) : Type 0 where
  pub text : List ℕ
  pub gave : Gave r x text d
  pub here : take n scratch ≡ text
  pub fits : n ≤ length scratch

-- the code's answer to the reading x: the length of a text in the scratch buffer, or a refusal. After a refusal the reader d may be any, as
-- with `Refines`
abbrev pub TextIn : BitReader → BitReader → Read (List ℕ) → List ℕ → Result ℕ Refusal → Type 0
TextIn r d x scratch (Ok n) = TextRead r x scratch n d
TextIn r d x scratch (Err e) = Refuses x e
