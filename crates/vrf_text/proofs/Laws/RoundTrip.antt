-- Round trips. Decoding RFC 2781's encoding gives back the scalar values (`utf16-encode`). `utf8_decode` gives back the scalar values from
-- their UTF-8, so no two lists of them have the same UTF-8, and every valid text is the UTF-8 of one list. Together: a valid text, encoded
-- as UTF-16 and decoded, is that text (`through-utf16`).
use Rattle.std.specs.Prelude.{true, List, [], ◌∷◌, ◌++◌, ◌≡◌, refl, get_or}
use Rattle.std.proofs.Math.Option.{some}
use Rattle.std.proofs.Common.{sym, ap, ◌∙◌}
use Prim.Native.Nat.{ℕ, ◌+◌, ◌-◌, ◌*◌, ◌/◌, ◌%◌, ◌≤◌}
use native.Mathlib.Omega.{arith}
use borrow.Author.Tests.{le-ltb, le-leb, lt-leb}
use Rattle.vrf_bitio.proofs.Laws.Cases.{at_most, by_order}
use Rattle.vrf_text.specs.Utf8.{In, UTF8-tail, UTF8-char, UTF8-octets, nil, char, within, utf8, UTF8-1, UTF8-2, UTF8-3-E0, UTF8-3-E1, UTF8-3-ED, UTF8-3-EE, UTF8-4-F0, UTF8-4-F1, UTF8-4-F4}
use Rattle.vrf_text.specs.Utf16.{Scalar, below, above, Scalars, surrogates, encode_char, encode_utf16, units, pair, before, utf16_from, utf16, utf8_of, utf8_chars, char_of, utf8_decode, units_to_utf8}
use Rattle.vrf_text.proofs.Laws.Utf8.{utf8-octets}
use Rattle.vrf_text.proofs.Laws.Utf16.{unit_bytes, encode-single, kind-below, kind-above, kind-high, kind-low, single-first, high-first, low_second}

-- ---- UTF-16

-- the character of the pair of surrogates that the encoding makes
pair-surrogates : (u : ℕ) → 0x10000 ≤ u → u ≤ 0x10FFFF → pair (0xD800 + (u - 0x10000) / 0x400) (0xDC00 + (u - 0x10000) % 0x400) ≡ u
unfolding pair
pair-surrogates u h k = omega arith

encoded-below : (u : ℕ) (l : List ℕ) → u ≤ 0xFFFF → Scalar u → utf16 (encode_char u ++ l) ≡ before u (utf16 l)
encoded-below u l h (below k) = rw (encode-single u h) (single-first u l (kind-below u (omega arith)))
encoded-below u l h (above k) = rw (encode-single u h) (single-first u l (kind-above u (omega arith)))

encoded-above : (u : ℕ) (l : List ℕ) → 0x10000 ≤ u → u ≤ 0x10FFFF → utf16 (encode_char u ++ l) ≡ before u (utf16 l)
unfolding encode_char surrogates
encoded-above u l h k =
    let w1 : ℕ = 0xD800 + (u - 0x10000) / 0x400 in
    let w2 : ℕ = 0xDC00 + (u - 0x10000) % 0x400 in
    rw (le-ltb u 0x10000 h)
    (high-first w1 (w2 ∷ l) (kind-high w1 (omega arith) (omega arith))
    ∙ low_second w1 w2 l (kind-low w2 (omega arith) (omega arith))
    ∙ rw (pair-surrogates u h k))

encoded : (u : ℕ) (l : List ℕ) → Scalar u → utf16 (encode_char u ++ l) ≡ before u (utf16 l)
encoded u l (below k) = encoded-below u l (omega arith) (below k)
encoded u l (above k) = by_order u 0xFFFF (λ h. encoded-below u l h (above k)) (λ h. encoded-above u l h k.high)

-- decoding the encoding of scalar values gives them back
pub utf16-encode : (cs : List ℕ) → Scalars cs → utf16 (encode_utf16 cs) ≡ some cs
unfolding encode_utf16 utf16 utf16_from before
utf16-encode [] s = refl
utf16-encode (u ∷ cs) s = encoded u (encode_utf16 cs) s.0 ∙ rw (utf16-encode cs s.1)

-- the units of the bytes of units are those units
pub units-unit_bytes : (ws : List ℕ) → units (unit_bytes ws) ≡ ws
unfolding units unit_bytes
units-unit_bytes [] = refl
units-unit_bytes (w ∷ ws) = let e : w % 256 + 256 * (w / 256) ≡ w = omega arith in rw (e, units-unit_bytes ws)

-- ---- UTF-8

-- `utf8_decode` skips a tail byte; any other byte begins a character
tail-passed : (b : ℕ) (l : List ℕ) → UTF8-tail b → utf8_decode (b ∷ l) ≡ utf8_decode l
unfolding utf8_decode within
tail-passed b l h = rw (le-leb 0x80 b h.low, le-leb b 0xBF h.high)

ascii-begins : (a : ℕ) (l : List ℕ) → a ≤ 0x7F → utf8_decode (a ∷ l) ≡ a ∷ utf8_decode l
unfolding utf8_decode within char_of
ascii-begins a l h = rw (lt-leb 0x80 a (omega arith), le-leb a 0x7F h)

lead-begins : (a : ℕ) (l : List ℕ) → 0xC0 ≤ a → utf8_decode (a ∷ l) ≡ char_of a l ∷ utf8_decode l
unfolding utf8_decode within
lead-begins a l h = rw (le-leb 0x80 a (omega arith), lt-leb a 0xBF h)

char_of-2 : (a : ℕ) (l : List ℕ) → In 0xC0 0xDF a → char_of a l ≡ a % 32 * 64 + get_or l 0 0 % 64
unfolding char_of
char_of-2 a l h = rw (lt-leb a 0x7F (omega arith), le-leb a 0xDF h.high)

char_of-3 : (a : ℕ) (l : List ℕ) → In 0xE0 0xEF a → char_of a l ≡ a % 16 * 4096 + get_or l 0 0 % 64 * 64 + get_or l 1 0 % 64
unfolding char_of
char_of-3 a l h = rw (lt-leb a 0x7F (omega arith), lt-leb a 0xDF h.low, le-leb a 0xEF h.high)

char_of-4 : (a : ℕ) (l : List ℕ) → 0xF0 ≤ a → char_of a l ≡ a % 8 * 262144 + get_or l 0 0 % 64 * 4096 + get_or l 1 0 % 64 * 64 + get_or l 2 0 % 64
unfolding char_of
char_of-4 a l h = rw (lt-leb a 0x7F (omega arith), lt-leb a 0xDF (omega arith), lt-leb a 0xEF h)

decode-2 : (u : ℕ) (l : List ℕ) → u ≤ 0x7FF → utf8_decode ((0xC0 + u / 64) ∷ (0x80 + u % 64) ∷ l) ≡ u ∷ utf8_decode l
decode-2 u l h =
    let a : ℕ = 0xC0 + u / 64 in
    let b : ℕ = 0x80 + u % 64 in
    let e : a % 32 * 64 + b % 64 ≡ u = omega arith in
    lead-begins a (b ∷ l) (omega arith)
    ∙ rw (char_of-2 a (b ∷ l) (omega arith), e, tail-passed b l (omega arith))

decode-3 : (u : ℕ) (l : List ℕ) → u ≤ 0xFFFF
    → utf8_decode ((0xE0 + u / 4096) ∷ (0x80 + u / 64 % 64) ∷ (0x80 + u % 64) ∷ l) ≡ u ∷ utf8_decode l
decode-3 u l h =
    let a : ℕ = 0xE0 + u / 4096 in
    let b : ℕ = 0x80 + u / 64 % 64 in
    let c : ℕ = 0x80 + u % 64 in
    let e : a % 16 * 4096 + b % 64 * 64 + c % 64 ≡ u = omega arith in
    lead-begins a (b ∷ c ∷ l) (omega arith)
    ∙ rw (char_of-3 a (b ∷ c ∷ l) (omega arith), e, tail-passed b (c ∷ l) (omega arith), tail-passed c l (omega arith))

four-digits : (u : ℕ) → u / 262144 * 262144 + u / 4096 % 64 * 4096 + u / 64 % 64 * 64 + u % 64 ≡ u
four-digits u = omega arith

four-parts : (u : ℕ) → u ≤ 0x10FFFF
    → (0xF0 + u / 262144) % 8 * 262144 + (0x80 + u / 4096 % 64) % 64 * 4096 + (0x80 + u / 64 % 64) % 64 * 64 + (0x80 + u % 64) % 64 ≡ u
four-parts u h =
    let a : (0xF0 + u / 262144) % 8 ≡ u / 262144 = omega arith in
    let b : (0x80 + u / 4096 % 64) % 64 ≡ u / 4096 % 64 = omega arith in
    let c : (0x80 + u / 64 % 64) % 64 ≡ u / 64 % 64 = omega arith in
    let d : (0x80 + u % 64) % 64 ≡ u % 64 = omega arith in
    rw (a, b, c, d) (four-digits u)

decode-4 : (u : ℕ) (l : List ℕ) → u ≤ 0x10FFFF
    → utf8_decode ((0xF0 + u / 262144) ∷ (0x80 + u / 4096 % 64) ∷ (0x80 + u / 64 % 64) ∷ (0x80 + u % 64) ∷ l) ≡ u ∷ utf8_decode l
decode-4 u l h =
    let a : ℕ = 0xF0 + u / 262144 in
    let b : ℕ = 0x80 + u / 4096 % 64 in
    let c : ℕ = 0x80 + u / 64 % 64 in
    let d : ℕ = 0x80 + u % 64 in
    let e : a % 8 * 262144 + b % 64 * 4096 + c % 64 * 64 + d % 64 ≡ u = four-parts u h in
    lead-begins a (b ∷ c ∷ d ∷ l) (omega arith)
    ∙ rw (
      char_of-4 a (b ∷ c ∷ d ∷ l) (omega arith),
      e,
      tail-passed b (c ∷ d ∷ l) (omega arith),
      tail-passed c (d ∷ l) (omega arith),
      tail-passed d l (omega arith),
    )

decode-char : (u : ℕ) (l : List ℕ) → u ≤ 0x10FFFF → utf8_decode (utf8_of u ++ l) ≡ u ∷ utf8_decode l
unfolding utf8_of
decode-char u l k =
    let P : List ℕ → Type 0 = λ c. utf8_decode (c ++ l) ≡ u ∷ utf8_decode l in
    at_most P u 0x7F (λ h. ascii-begins u l h) λ _.
    at_most P u 0x7FF (λ h. decode-2 u l h) λ _.
    at_most P u 0xFFFF (λ h. decode-3 u l h) λ _. decode-4 u l k

scalar-top : {u : ℕ} → Scalar u → u ≤ 0x10FFFF
scalar-top (below k) = omega arith
scalar-top (above k) = k.high

-- decoding the UTF-8 of scalar values gives them back
pub utf8_decode-chars : (cs : List ℕ) → Scalars cs → utf8_decode (utf8_chars cs) ≡ cs
unfolding utf8_chars utf8_decode
utf8_decode-chars [] s = refl
utf8_decode-chars (u ∷ cs) s = decode-char u (utf8_chars cs) (scalar-top s.0) ∙ ap (◌∷◌ u) (utf8_decode-chars cs s.1)

-- no two lists of scalar values have the same UTF-8
pub utf8_chars-injective : (cs ds : List ℕ) → Scalars cs → Scalars ds → utf8_chars cs ≡ utf8_chars ds → cs ≡ ds
utf8_chars-injective cs ds s t e = sym (utf8_decode-chars cs s) ∙ ap utf8_decode e ∙ utf8_decode-chars ds t

-- ---- every valid text is the UTF-8 of scalar values

-- the scalar value that a character of the grammar encodes
record Encodes (c : List ℕ) : Type 0 where
  code : ℕ
  scalar : Scalar code
  is : utf8_of code ≡ c

code-2 : (a b : ℕ) → In 0xC2 0xDF a → UTF8-tail b → Encodes (a ∷ b ∷ [])
unfolding utf8_of
code-2 a b h i =
    let u : ℕ = a % 32 * 64 + b % 64 in
    let x : 0xC0 + u / 64 ≡ a = omega arith in
    let y : 0x80 + u % 64 ≡ b = omega arith in
    record { code = u; scalar = below {u = u} (omega arith); is = rw (lt-leb u 0x7F (omega arith), le-leb u 0x7FF (omega arith), x, y) }

module _ (a b c : ℕ) (h : In 0xE0 0xEF a) (i : UTF8-tail b) (j : UTF8-tail c) where
  abbrev value-3 : ℕ
  value-3 = a % 16 * 4096 + b % 64 * 64 + c % 64

  code-3 : 0x800 ≤ value-3 → Scalar value-3 → Encodes (a ∷ b ∷ c ∷ [])
  unfolding utf8_of
  code-3 k s =
      let u : ℕ = value-3 in
      let x : 0xE0 + u / 4096 ≡ a = omega arith in
      let y : 0x80 + u / 64 % 64 ≡ b = omega arith in
      let z : 0x80 + u % 64 ≡ c = omega arith in
      record { code = u; scalar = s; is = rw (lt-leb u 0x7F (omega arith), lt-leb u 0x7FF (omega arith), le-leb u 0xFFFF (omega arith), x, y, z) }

module _ (a b c d : ℕ) (h : In 0xF0 0xF4 a) (i : UTF8-tail b) (j : UTF8-tail c) (k : UTF8-tail d) where
  abbrev value-4 : ℕ
  value-4 = a % 8 * 262144 + b % 64 * 4096 + c % 64 * 64 + d % 64

  code-4 : In 0x10000 0x10FFFF value-4 → Encodes (a ∷ b ∷ c ∷ d ∷ [])
  unfolding utf8_of
  code-4 r =
      let u : ℕ = value-4 in
      let w : 0xF0 + u / 262144 ≡ a = omega arith in
      let x : 0x80 + u / 4096 % 64 ≡ b = omega arith in
      let y : 0x80 + u / 64 % 64 ≡ c = omega arith in
      let z : 0x80 + u % 64 ≡ d = omega arith in
      let s : Scalar u = above {u = u} (omega arith) in
      record { code = u; scalar = s; is = rw (lt-leb u 0x7F (omega arith), lt-leb u 0x7FF (omega arith), lt-leb u 0xFFFF r.low, w, x, y, z) }

char-encodes : {c : List ℕ} → UTF8-char c → Encodes c
unfolding utf8_of
char-encodes (UTF8-1 {a = a} h) = record { code = a; scalar = below {u = a} (omega arith); is = rw (le-leb a 0x7F h.high) }
char-encodes (UTF8-2 h i) = code-2 _ _ h i
char-encodes (UTF8-3-E0 {b = b} {c = c} i j) = code-3 0xE0 b c (omega arith) (omega arith) j (omega arith) (below (omega arith))
char-encodes (UTF8-3-E1 {a = a} {b = b} {c = c} h i j) = code-3 a b c (omega arith) i j (omega arith) (below (omega arith))
char-encodes (UTF8-3-ED {b = b} {c = c} i j) = code-3 0xED b c (omega arith) (omega arith) j (omega arith) (below (omega arith))
char-encodes (UTF8-3-EE {a = a} {b = b} {c = c} h i j) = code-3 a b c (omega arith) i j (omega arith) (above (omega arith))
char-encodes (UTF8-4-F0 {b = b} {c = c} {d = d} i j k) = code-4 0xF0 b c d (omega arith) (omega arith) j k (omega arith)
char-encodes (UTF8-4-F1 {a = a} {b = b} {c = c} {d = d} h i j k) = code-4 a b c d (omega arith) i j k (omega arith)
char-encodes (UTF8-4-F4 {b = b} {c = c} {d = d} i j k) = code-4 0xF4 b c d (omega arith) (omega arith) j k (omega arith)

-- the scalar values that a text encodes
record EncodesText (t : List ℕ) : Type 0 where
  codes : List ℕ
  scalars : Scalars codes
  is : utf8_chars codes ≡ t

octets-encode : {t : List ℕ} → UTF8-octets t → EncodesText t
unfolding utf8_chars
octets-encode nil = record { codes = []; scalars = tt; is = refl }
octets-encode (char k o) =
    let e = char-encodes k in
    let r = octets-encode o in
    record { codes = e.code ∷ r.codes; scalars = (e.scalar, r.scalars); is = rw (e.is, r.is) }

module _ (t : List ℕ) (v : utf8 t ≡ true) where
  text-encodes : EncodesText t
  text-encodes = octets-encode (utf8-octets t v)

  decoded : utf8_decode t ≡ text-encodes.codes
  decoded = ap utf8_decode (sym text-encodes.is) ∙ utf8_decode-chars text-encodes.codes text-encodes.scalars

  -- the characters of a valid text are scalar values, and the text is their UTF-8
  pub utf8_decode-scalars : Scalars (utf8_decode t)
  utf8_decode-scalars = rw decoded text-encodes.scalars

  pub utf8_chars-decode : utf8_chars (utf8_decode t) ≡ t
  utf8_chars-decode = rw decoded text-encodes.is

  -- a valid text, encoded as UTF-16 and decoded, is that text
  pub through-utf16 : units_to_utf8 (encode_utf16 (utf8_decode t)) ≡ some t
  unfolding units_to_utf8
  through-utf16 = rw (utf16-encode (utf8_decode t) utf8_decode-scalars, units_to_utf8, utf8_chars-decode)
