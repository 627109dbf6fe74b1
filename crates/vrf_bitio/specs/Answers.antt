-- What each answer of the code means. A reading is given as the reader before it, the reader after it, the outcome x of the definition, and
-- the code's answer: the value, or the refusal with its number and details.
use Rattle.std.specs.Prelude.{◌≡◌, List, ℕ, Result, Ok, Err}
use Rattle.std.specs.Borrow.{Bor}
use Rattle.vrf_bitio.specs.Reading.{Read, ok, refused, Reader}
use Rattle.vrf_bitio.specs.Reasons.{number}
use Rattle.vrf_bitio.specs.Window.{rest, bits}
use Rattle.vrf_bitio.specs.Pasted.{pasted}
use Rattle.vrf_bitio.specs.declared.BitReader.{BitReader}
use Rattle.vrf_bitio.specs.declared.Refusal.{Refusal}

-- the bytes left at a reader, the outcome of a reading there, and of reading n bits there
abbrev pub rest_of : BitReader → List ℕ
rest_of r = rest r.«data».now r.first r.count r.pos

abbrev pub read_here : {A : Type 0} → BitReader → Reader A → Read A
read_here r f = f r.pos (rest_of r)

abbrev pub bits_here : BitReader → ℕ → Read ℕ
bits_here r n = bits r.«data».now r.first r.count n r.pos

-- the outcome x is the value v, and d is the reader after it, in the window of r
pub record Gave {A : Type 0} (r : BitReader) (x : Read A) (v : A) (d : BitReader) : Type 0 where
  pub read : x ≡ ok v d.pos (rest_of d)
  pub same : d.«data» ≡ r.«data»
  pub first : d.first ≡ r.first
  pub count : d.count ≡ r.count

-- the outcome x is the refusal e
abbrev pub Refuses : {A : Type 0} → Read A → Refusal → Type 0
Refuses x e = x ≡ refused (number e.reason) e.a e.b

-- the value that the definition has is `view` of the code's value; a refused reading moves nothing
abbrev pub AnswersAs : {A B : Type 0} → (B → A) → BitReader → BitReader → Read A → Result B Refusal → Type 0
AnswersAs view r d x (Ok v) = Gave r x (view v) d
AnswersAs view r d x (Err e) = Refuses x e × (d ≡ r)

abbrev pub Answers : {A : Type 0} → BitReader → BitReader → Read A → Result A Refusal → Type 0
Answers = AnswersAs (λ v. v)

-- a reader of the bytes s is answered as its first bit and its bit count; its position is 0
abbrev pub Opens : Bor (List ℕ) → Read (ℕ × ℕ) → Result BitReader Refusal → Type 0
Opens s x (Ok w) = (w.«data» ≡ s) × (x ≡ ok (w.first, w.count) w.pos (rest_of w))
Opens s x (Err e) = Refuses x e

abbrev pub InnerAnswer : BitReader → BitReader → Read (ℕ × ℕ) → Result BitReader Refusal → Type 0
InnerAnswer r d x (Ok w) = Gave r x (w.first, w.count) d × ((w.pos ≡ 0) × (w.«data» ≡ r.«data»))
InnerAnswer r d x (Err e) = Refuses x e × (d ≡ r)

-- the target begins with the copied bytes and is unchanged after them; a refused copy leaves the whole target unchanged
abbrev pub CopiedAnswer : BitReader → BitReader → Read (List ℕ) → List ℕ → List ℕ → Result (Unit {0}) Refusal → Type 0
CopiedAnswer r d x before after (Ok u) = (v : List ℕ) × (Gave r x v d × (after ≡ pasted before 0 v))
CopiedAnswer r d x before after (Err e) = Refuses x e × ((d ≡ r) × (after ≡ before))
