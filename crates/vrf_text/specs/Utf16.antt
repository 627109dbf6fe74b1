-- UTF-16 (RFC 2781) and its conversion to UTF-8 and back: bytes make units, units make characters, characters make UTF-8 bytes.
use Rattle.std.specs.Prelude.{cond, List, [], ◌∷◌, ◌++◌, ℕ, ◌+◌, ◌-◌, ◌*◌, ◌/◌, ◌%◌, ◌≤◌, leb, ltb, get_or}
use Rattle.std.proofs.Math.Option.{Option, none, some}
use Rattle.vrf_text.specs.Utf8.{In, within}

-- a Unicode scalar value: any character number except the surrogates
pub data Scalar : ℕ → Type 0 where
  below : {u : ℕ} → u ≤ 0xD7FF → Scalar u
  above : {u : ℕ} → In 0xE000 0x10FFFF u → Scalar u

-- each of the characters is a scalar value
abbrev pub Scalars : List ℕ → Type 0
Scalars [] = Unit {0}
Scalars (u ∷ cs) = Scalar u × Scalars cs

-- ---- RFC 2781, section 2.1: encoding

-- steps 2 to 4: U' = U - 0x10000; W1 is 0xD800 with the ten high bits of U', W2 is 0xDC00 with the ten low bits
unfoldable pub surrogates : ℕ → List ℕ
surrogates u' = (0xD800 + u' / 0x400) ∷ (0xDC00 + u' % 0x400) ∷ []

-- step 1: if U < 0x10000, the unit is U itself
unfoldable pub encode_char : ℕ → List ℕ
encode_char u = cond (ltb u 0x10000) (u ∷ []) (surrogates (u - 0x10000))

unfoldable pub encode_utf16 : List ℕ → List ℕ
encode_utf16 [] = []
encode_utf16 (u ∷ cs) = encode_char u ++ encode_utf16 cs

-- ---- RFC 2781, section 2.2: decoding, bytes to units and units to characters

-- UTF-16LE: the 16-bit units of bytes, low byte first; an odd last byte is dropped
unfoldable pub units : List ℕ → List ℕ
units [] = []
units (a ∷ []) = []
units (a ∷ b ∷ l) = (a + 256 * b) ∷ units l

-- the three kinds of unit: a character by itself, the high surrogate (W1) of a pair, the low surrogate (W2) of a pair
pub data Kind : Type 0 where
  single high low : Kind

unfoldable pub kind : ℕ → Kind
kind w =
    cond (leb w 0xD7FF) single
    (cond (leb w 0xDBFF) high
    (cond (leb w 0xDFFF) low
    single))

-- the character of a pair: the ten low bits of W1 above those of W2, plus 0x10000
unfoldable pub pair : ℕ → ℕ → ℕ
pair w1 w2 = 0x10000 + (w1 % 0x400 * 0x400 + w2 % 0x400)

-- the character u put before the characters of the rest, if the rest has no error
unfoldable pub before : ℕ → Option (List ℕ) → Option (List ℕ)
before u none = none
before u (some cs) = some (u ∷ cs)

-- The characters of units, after a high surrogate if the first argument has one. A surrogate without its partner is an error.
unfoldable pub utf16_from : Option ℕ → List ℕ → Option (List ℕ)
utf16_from none [] = some []
utf16_from (some w1) [] = none
utf16_from none (w ∷ l) = elim (kind w) [ single ↦ before w (utf16_from none l) | high ↦ utf16_from (some w) l | low ↦ none ]
utf16_from (some w1) (w ∷ l) = elim (kind w) [ single ↦ none | high ↦ none | low ↦ before (pair w1 w) (utf16_from none l) ]

unfoldable pub utf16 : List ℕ → Option (List ℕ)
utf16 ws = utf16_from none ws

-- ---- RFC 3629, section 3: characters to UTF-8 and back

-- the bytes of one character: the four lines of the RFC's table
unfoldable pub utf8_of : ℕ → List ℕ
utf8_of u =
    cond (leb u 0x7F) (u ∷ [])
    (cond (leb u 0x7FF) ((0xC0 + u / 64) ∷ (0x80 + u % 64) ∷ [])
    (cond (leb u 0xFFFF) ((0xE0 + u / 4096) ∷ (0x80 + u / 64 % 64) ∷ (0x80 + u % 64) ∷ [])
    ((0xF0 + u / 262144) ∷ (0x80 + u / 4096 % 64) ∷ (0x80 + u / 64 % 64) ∷ (0x80 + u % 64) ∷ [])))

unfoldable pub utf8_chars : List ℕ → List ℕ
utf8_chars [] = []
utf8_chars (u ∷ cs) = utf8_of u ++ utf8_chars cs

-- the character that begins with the byte a, followed by the bytes l: the bits x of the table's four lines
unfoldable pub char_of : ℕ → List ℕ → ℕ
char_of a l =
    cond (leb a 0x7F) a
    (cond (leb a 0xDF) (a % 32 * 64 + get_or l 0 0 % 64)
    (cond (leb a 0xEF) (a % 16 * 4096 + get_or l 0 0 % 64 * 64 + get_or l 1 0 % 64)
    (a % 8 * 262144 + get_or l 0 0 % 64 * 4096 + get_or l 1 0 % 64 * 64 + get_or l 2 0 % 64)))

-- the characters of a valid text: each byte that is not a tail byte begins one
unfoldable pub utf8_decode : List ℕ → List ℕ
utf8_decode [] = []
utf8_decode (a ∷ l) = cond (within 0x80 0xBF a) (utf8_decode l) (char_of a l ∷ utf8_decode l)

-- ---- UTF-16 to UTF-8

-- the UTF-8 of units, if they have no error
unfoldable pub units_to_utf8 : List ℕ → Option (List ℕ)
units_to_utf8 ws = elim (utf16 ws) [ none ↦ none | some cs ↦ some (utf8_chars cs) ]
