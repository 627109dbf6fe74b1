-- Laws of UTF-16: characters as UTF-8 follow the grammar, the decoder accepts exactly the encodings of scalar values, and its result is
-- valid UTF-8.
use Rattle.std.specs.Prelude.{List, [], ◌∷◌, ◌++◌, true, ◌≡◌, refl, ℕ, ◌+◌, ◌-◌, ◌*◌, ◌/◌, ◌%◌, ◌≤◌, zero, suc, ◌<◌, get_or}
use Rattle.std.proofs.Math.Option.{Option, none, some}
use Rattle.std.proofs.Common.{subst, zero-le, arith}
use borrow.Author.Tests.{lt-ltb, le-ltb, le-leb, lt-leb}
use Rattle.vrf_bitio.proofs.Laws.Cases.{by_order, at_most}
use Rattle.vrf_text.specs.Utf8.{In, UTF8-char, UTF8-octets, nil, char, utf8, UTF8-1, UTF8-2, UTF8-3-E0, UTF8-3-E1, UTF8-3-ED, UTF8-3-EE, UTF8-4-F0, UTF8-4-F1, UTF8-4-F4}
use Rattle.vrf_text.specs.Utf16.{Scalar, below, above, Scalars, surrogates, encode_char, encode_utf16, units, Kind, single, high, low, kind, pair, before, utf16_from, utf16, utf8_of, utf8_chars}
use Rattle.vrf_text.specs.Utf16.{units_to_utf8}
use Rattle.vrf_text.proofs.Laws.Utf8.{octets-utf8}

-- ---- units to bytes

-- UTF-16LE: the two bytes of each unit, low byte first
unfoldable pub unit_bytes : List ℕ → List ℕ
unit_bytes [] = []
unit_bytes (w ∷ ws) = w % 256 ∷ w / 256 ∷ unit_bytes ws

-- ---- a character as UTF-8 follows the grammar

abbrev three : ℕ → List ℕ
three u = (0xE0 + u / 4096) ∷ (0x80 + u / 64 % 64) ∷ (0x80 + u % 64) ∷ []

abbrev four : ℕ → List ℕ
four u = (0xF0 + u / 262144) ∷ (0x80 + u / 4096 % 64) ∷ (0x80 + u / 64 % 64) ∷ (0x80 + u % 64) ∷ []

three-char : (u : ℕ) → In 0x800 0xFFFF u → Scalar u → UTF8-char (three u)
three-char u h (below k) =
    by_order u 0xFFF (λ p. let e : 0xE0 + u / 4096 ≡ 0xE0 = omega arith in rw e (UTF8-3-E0 {b = 0x80 + u / 64 % 64} {c = 0x80 + u % 64} (omega arith) (omega arith))) λ p.
    by_order u 0xCFFF (λ q. UTF8-3-E1 (omega arith) (omega arith) (omega arith)) λ q.
    let e : 0xE0 + u / 4096 ≡ 0xED = omega arith in rw e (UTF8-3-ED {b = 0x80 + u / 64 % 64} {c = 0x80 + u % 64} (omega arith) (omega arith))
three-char u h (above k) = UTF8-3-EE {a = 0xE0 + u / 4096} {b = 0x80 + u / 64 % 64} {c = 0x80 + u % 64} (omega arith) (omega arith) (omega arith)

four-char : (u : ℕ) → 0xFFFF < u → Scalar u → UTF8-char (four u)
four-char u h (below k) = absurd (omega arith)
four-char u h (above k) =
    by_order u 0x3FFFF (λ p. let e : 0xF0 + u / 262144 ≡ 0xF0 = omega arith in rw e (UTF8-4-F0 {b = 0x80 + u / 4096 % 64} {c = 0x80 + u / 64 % 64} {d = 0x80 + u % 64} (omega arith) (omega arith) (omega arith))) λ p.
    by_order u 0xFFFFF (λ q. UTF8-4-F1 (omega arith) (omega arith) (omega arith) (omega arith)) λ q.
    let e : 0xF0 + u / 262144 ≡ 0xF4 = omega arith in rw e (UTF8-4-F4 {b = 0x80 + u / 4096 % 64} {c = 0x80 + u / 64 % 64} {d = 0x80 + u % 64} (omega arith) (omega arith) (omega arith))

-- the UTF-8 of a scalar value is a character of the grammar
pub scalar-char : (u : ℕ) → Scalar u → UTF8-char (utf8_of u)
unfolding utf8_of
scalar-char u s =
    at_most UTF8-char u 0x7F (λ h. UTF8-1 (record { low = zero-le; high = h })) λ p.
    at_most UTF8-char u 0x7FF (λ h. UTF8-2 (omega arith) (omega arith)) λ p.
    at_most UTF8-char u 0xFFFF (λ h. three-char u (record { low = p; high = h }) s) λ p. four-char u p s

scalars-octets : (cs : List ℕ) → Scalars cs → UTF8-octets (utf8_chars cs)
unfolding utf8_chars
scalars-octets [] s = nil
scalars-octets (u ∷ cs) s = char (scalar-char u s.0) (scalars-octets cs s.1)

-- the UTF-8 of scalar values is valid
pub utf8_chars-valid : (cs : List ℕ) → Scalars cs → utf8 (utf8_chars cs) ≡ true
utf8_chars-valid cs s = octets-utf8 (scalars-octets cs s)

-- ---- the first unit of a list

module _ (a : ℕ) where
  pub kind-below : a < 0xD800 → kind a ≡ single
  unfolding kind
  kind-below h = rw (le-leb a 0xD7FF (omega arith))

  pub kind-above : 0xDFFF < a → kind a ≡ single
  unfolding kind
  kind-above h = rw (lt-leb a 0xD7FF (omega arith), lt-leb a 0xDBFF (omega arith), lt-leb a 0xDFFF h)

  pub kind-high : 0xD800 ≤ a → a ≤ 0xDBFF → kind a ≡ high
  unfolding kind
  kind-high h k = rw (lt-leb a 0xD7FF h, le-leb a 0xDBFF k)

  pub kind-low : 0xDBFF < a → a ≤ 0xDFFF → kind a ≡ low
  unfolding kind
  kind-low h k = rw (lt-leb a 0xD7FF (omega arith), lt-leb a 0xDBFF h, le-leb a 0xDFFF k)

  pub single-first : (l : List ℕ) → kind a ≡ single → utf16 (a ∷ l) ≡ before a (utf16 l)
  unfolding utf16 utf16_from
  single-first l e = rw (e, utf16_from)

  pub high-first : (l : List ℕ) → kind a ≡ high → utf16 (a ∷ l) ≡ utf16_from (some a) l
  unfolding utf16 utf16_from
  high-first l e = rw (e, utf16_from)

  pub low_second : (b : ℕ) (l : List ℕ) → kind b ≡ low → utf16_from (some a) (b ∷ l) ≡ before (pair a b) (utf16 l)
  unfolding utf16 utf16_from
  low_second b l e = rw (e, utf16_from)

-- ---- the decoder accepts the encodings of scalar values, and nothing else

-- the result is an error, or scalar values whose encoding is ws
abbrev Decoded : List ℕ → Option (List ℕ) → Type 0
Decoded ws none = Unit {0}
Decoded ws (some cs) = Scalars cs × (encode_utf16 cs ≡ ws)

pub encode-single : (u : ℕ) → u ≤ 0xFFFF → encode_char u ≡ u ∷ []
unfolding encode_char
encode-single u h = rw (lt-ltb u 0x10000 (omega arith))

encode-pair : (w1 w2 : ℕ) → In 0xD800 0xDBFF w1 → In 0xDC00 0xDFFF w2 → encode_char (pair w1 w2) ≡ w1 ∷ w2 ∷ []
unfolding encode_char surrogates pair
encode-pair w1 w2 h k =
    let u : ℕ = 0x10000 + (w1 % 0x400 * 0x400 + w2 % 0x400) in
    let a : 0xD800 + (u - 0x10000) / 0x400 ≡ w1 = omega arith in
    let b : 0xDC00 + (u - 0x10000) % 0x400 ≡ w2 = omega arith in
    rw (le-ltb u 0x10000 (omega arith), a, b)

pair-scalar : (w1 w2 : ℕ) → Scalar (pair w1 w2)
unfolding pair
pair-scalar w1 w2 = above {u = pair w1 w2} (omega arith)

decoded-before : (u : ℕ) (x l : List ℕ) (o : Option (List ℕ)) → Scalar u → encode_char u ≡ x → Decoded l o → Decoded (x ++ l) (before u o)
unfolding before encode_utf16
decoded-before u x l none s e g = tt
decoded-before u x l (some cs) s e g = ((s, g.0), rw (e, g.1))

-- the units l, after a high surrogate if there is one
abbrev after_high : Option ℕ → List ℕ → List ℕ
after_high none l = l
after_high (some w1) l = w1 ∷ l

abbrev IsHigh : Option ℕ → Type 0
IsHigh none = Unit {0}
IsHigh (some w1) = In 0xD800 0xDBFF w1

decoded-from : (o : Option ℕ) (ws : List ℕ) → IsHigh o → ((i : ℕ) → get_or ws i 0 ≤ 0xFFFF) → Decoded (after_high o ws) (utf16_from o ws)
unfolding utf16_from kind encode_utf16
decoded-from none [] k h = (tt, refl)
decoded-from (some w1) [] k h = tt
decoded-from none (w ∷ l) k h =
    let g : Decoded l (utf16_from none l) = decoded-from none l tt (λ i. h (suc i)) in
    let one : Scalar w → Decoded (w ∷ l) (before w (utf16_from none l)) = λ s. decoded-before w (w ∷ []) l _ s (encode-single w (h 0)) g in
    let P : Kind → Type 0 = λ k. Decoded (w ∷ l) (elim k [ single ↦ before w (utf16_from none l) | high ↦ utf16_from (some w) l | low ↦ none ]) in
    at_most P w 0xD7FF (λ p. one (below p)) λ p.
    at_most P w 0xDBFF (λ q. decoded-from (some w) l (record { low = p; high = q }) (λ i. h (suc i))) λ _.
    at_most P w 0xDFFF (λ _. tt) λ p. one (above (record { low = p; high = omega (arith, h 0) }))
decoded-from (some w1) (w ∷ l) k h =
    let g : Decoded l (utf16_from none l) = decoded-from none l tt (λ i. h (suc i)) in
    let P : Kind → Type 0 = λ k. Decoded (w1 ∷ w ∷ l) (elim k [ single ↦ none | high ↦ none | low ↦ before (pair w1 w) (utf16_from none l) ]) in
    at_most P w 0xD7FF (λ _. tt) λ _.
    at_most P w 0xDBFF (λ _. tt) λ p.
    at_most P w 0xDFFF
    (λ q. decoded-before (pair w1 w) (w1 ∷ w ∷ []) l _ (pair-scalar w1 w) (encode-pair w1 w k (record { low = p; high = q })) g)
    λ _. tt

module _ (ws : List ℕ) (h : (i : ℕ) → get_or ws i 0 ≤ 0xFFFF) where
  decoded : Decoded ws (utf16 ws)
  unfolding utf16
  decoded = decoded-from none ws tt h

  -- accepted units are the encoding of their characters, which are scalar values
  pub encode-utf16 : {cs : List ℕ} → utf16 ws ≡ some cs → Scalars cs × (encode_utf16 cs ≡ ws)
  encode-utf16 e = subst (Decoded ws) e decoded

-- ---- the decoder's result is valid UTF-8

-- the result is an error, or valid UTF-8
abbrev pub InvalidOrUtf8 : Option (List ℕ) → Type 0
InvalidOrUtf8 none = Unit {0}
InvalidOrUtf8 (some t) = utf8 t ≡ true

pub units_to_utf8-valid : (ws : List ℕ) → ((i : ℕ) → get_or ws i 0 ≤ 0xFFFF) → InvalidOrUtf8 (units_to_utf8 ws)
unfolding units_to_utf8
units_to_utf8-valid ws h = go (utf16 ws) (decoded ws h)
  where
    go : (o : Option (List ℕ)) → Decoded ws o → InvalidOrUtf8 (elim o [ none ↦ none | some cs ↦ some (utf8_chars cs) ])
    go none g = tt
    go (some cs) g = utf8_chars-valid cs g.0

-- a unit made of two bytes is at most 0xFFFF
pub units-16 : (l : List ℕ) → ((i : ℕ) → get_or l i 0 < 256) → (i : ℕ) → get_or (units l) i 0 ≤ 0xFFFF
unfolding units
units-16 [] h i = zero-le
units-16 (a ∷ []) h i = zero-le
units-16 (a ∷ b ∷ l) h zero = omega (arith, h 0, h 1)
units-16 (a ∷ b ∷ l) h (suc i) = units-16 l (λ j. h (suc (suc j))) i
