-- Relations for the contracts of the inner functions: a step over UTF-8 bytes, a word of UTF-16 units, a measured or written text, and a
-- text that is put into a target. The contracts of the exported functions do not use them.
use Rattle.std.specs.Prelude.{false, List, ◌≡◌, ℕ, zero, suc, ◌+◌, ◌-◌, ◌*◌, ◌/◌, ◌%◌, ◌^◌, ◌≤◌, ◌<◌, ℤ, pos, negsuc, length, get_or, drop, Option, None, Some, Result, Ok, Err}
use Rattle.std.proofs.Math.Option.{Option as Maybe, none, some}
use Rattle.vrf_bitio.specs.Reading.{Read, Reader, ◌>>=◌}
use Rattle.vrf_bitio.specs.Pasted.{pasted}
use Rattle.vrf_bitio.specs.Answers.{Gave, Refuses}
use Rattle.vrf_bitio.specs.Inner.Reader.{moved}
use Rattle.vrf_bitio.specs.declared.BitReader.{BitReader}
use Rattle.vrf_bitio.specs.declared.Reason.TheVariants.{TextLength}
use Rattle.vrf_bitio.specs.declared.Refusal.{Refusal}
use Rattle.vrf_text.specs.Utf8.{utf8}
use Rattle.vrf_text.specs.Text.{checked, into_target}
use Rattle.vrf_text.specs.declared.Length.{Length}
use Rattle.vrf_text.specs.declared.Length.TheVariants.{Empty, Bytes as OfBytes, Units as OfUnits}

-- ---- UTF-8

-- byte j of a number, low byte first
unfoldable pub byte_of : ℕ → ℕ → ℕ
byte_of w zero = w % 256
byte_of w (suc j) = byte_of (w / 256) j

-- the word w holds the first eight bytes of l, low byte first; past the end of l it has 0
abbrev pub WordHolds : ℕ → List ℕ → Type 0
WordHolds w l = (j : ℕ) → j < 8 → get_or l j 0 ≡ byte_of w j

-- a step of 1 to m bytes, or none
abbrev pub Few : ℕ → Option ℕ → Type 0
Few m (Some k) = (0 < k) × (k ≤ m)
Few m None = Unit {0}

-- the bytes of l that may be passed: l is valid if and only if the rest is. None means that l is not valid.
abbrev pub Passed : List ℕ → Option ℕ → Type 0
Passed l (Some k) = utf8 (drop k l) ≡ utf8 l
Passed l None = utf8 l ≡ false

-- the step r, of at most m bytes, may be made in each text whose first eight bytes are in the word w
pub record Utf8Step (w m : ℕ) (r : Option ℕ) : Type 0 where
  pub few : Few m r
  pub passed : (l : List ℕ) → WordHolds w l → Passed l r

-- bit b is 0 in each of the first n bytes of l
abbrev pub Clear : List ℕ → ℕ → ℕ → Type 0
Clear l b n = (j : ℕ) → j < n → get_or l j 0 / 2 ^ b % 2 ≡ 0

-- ---- UTF-16

-- the word w holds the first two units of ws, low unit first; past the end of ws it has 0
pub record WordHolds16 (w : ℕ) (ws : List ℕ) : Type 0 where
  pub any : 0 < length ws
  pub first : get_or ws 0 0 ≡ w % 0x10000
  pub second : get_or ws 1 0 ≡ w / 0x10000 % 0x10000

-- the length of a text, or none if there is no text
abbrev pub MeasuredAnswer : Maybe (List ℕ) → Option ℕ → Type 0
MeasuredAnswer o (Some n) = (t : List ℕ) × ((o ≡ some t) × (n ≡ length t))
MeasuredAnswer o None = o ≡ none

-- there is a text, and it fits m bytes
pub record FitsTarget (o : Maybe (List ℕ)) (m : ℕ) : Type 0 where
  pub text : List ℕ
  pub is : o ≡ some text
  pub fits : length text ≤ m

-- there is a text, and it was written to the first bytes of the lent memory
pub record WroteText (o : Maybe (List ℕ)) (was current : List ℕ) : Type 0 where
  pub text : List ℕ
  pub is : o ≡ some text
  pub wrote : current ≡ pasted was 0 text

-- ---- text on the wire

-- a text's length word, decoded: no text, bytes of UTF-8, or units of UTF-16
abbrev pub LengthOf : ℤ → Length → Type 0
LengthOf z Empty = z ≡ pos 0
LengthOf z (OfBytes n) = (z ≡ pos n) × (0 < n)
LengthOf z (OfUnits n) = (z ≡ negsuc (n - 1)) × (0 < n)

-- the position of a reader, as a bit of its bytes
abbrev pub bit_at : BitReader → ℕ
bit_at r = r.first + r.pos

-- the bits of the text at `start` are passed, from the bit `at` of the slice on, or they are refused; w is the text's length word
abbrev pub TakesText : BitReader → BitReader → ℕ → ℕ → ℕ → Result ℕ Refusal → Type 0
TakesText r d start w bits (Ok at) = (bits ≤ 8 * 1048576) × (bits ≤ r.count - r.pos) × (at ≡ bit_at r) × (d ≡ moved r bits) × (at < 2 ^ 33)
TakesText r d start w bits (Err e) = (bits ≤ 8 * 1048576 → r.count - r.pos < bits) × (e ≡ record { reason = TextLength; a = start; b = w })

-- the text that f reads, for a target of m bytes
abbrev pub into : ℕ → Reader (List ℕ) → Reader (List ℕ)
into m f = f >>= into_target m

-- A text put into a target. The answer is its length, and d is the reader after it. After a refusal the reader may be anywhere, but the
-- whole target is unchanged.
abbrev pub PutAnswer : BitReader → BitReader → Read (List ℕ) → List ℕ → List ℕ → Result ℕ Refusal → Type 0
PutAnswer r d x before after (Ok n) = (v : List ℕ) × (Gave r x v d × ((n ≡ length v) × (after ≡ pasted before 0 v)))
PutAnswer r d x before after (Err e) = Refuses x e × (after ≡ before)

-- whether a text of n bytes may be put into a target of m bytes
abbrev pub RoomAnswer : ℕ → ℕ → Result (Unit {0}) Refusal → Type 0
RoomAnswer n m (Ok u) = (n ≤ 4096) × (n ≤ m)
RoomAnswer n m (Err e) = (start : ℕ) (t : List ℕ) → n ≡ length t → (p : ℕ) (l : List ℕ) → Refuses (into m (checked start (some t)) p l) e
