-- What the answers of `read_fstring` and `check_text` mean, as vrf_bitio's specs/Answers.antt has it for the bit reader.
use Rattle.std.specs.Prelude.{List, ◌≡◌, ℕ, length, Result, Ok, Err}
use Rattle.vrf_bitio.specs.Reading.{Read}
use Rattle.vrf_bitio.specs.Reasons.{number}
use Rattle.vrf_bitio.specs.Pasted.{pasted}
use Rattle.vrf_bitio.specs.Answers.{Gave, Refuses}
use Rattle.vrf_bitio.specs.declared.BitReader.{BitReader}
use Rattle.vrf_bitio.specs.declared.Refusal.{Refusal}
use Rattle.vrf_text.specs.Text.{CallerText, accepted, refusal}

-- The answer is the length of the text, and d is the reader after it. The target begins with the text and is unchanged after it. A refused
-- reading moves nothing and leaves the whole target unchanged.
abbrev pub TextAnswer : BitReader → BitReader → Read (List ℕ) → List ℕ → List ℕ → Result ℕ Refusal → Type 0
TextAnswer r d x before after (Ok n) = (v : List ℕ) × (Gave r x v d × ((n ≡ length v) × (after ≡ pasted before 0 v)))
TextAnswer r d x before after (Err e) = Refuses x e × ((d ≡ r) × (after ≡ before))

abbrev pub CallerAnswer : CallerText → Result (Unit {0}) Refusal → Type 0
CallerAnswer x (Ok u) = x ≡ accepted
CallerAnswer x (Err e) = x ≡ refusal (number e.reason) e.a e.b
