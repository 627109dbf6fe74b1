-- UTF-8 (RFC 3629): the grammar of section 4 as data, rule by rule, and the test `utf8` that the contracts use. proofs/Laws/Utf8.antt proves
-- that the two agree on every list. A text is the list of its bytes.
use Rattle.std.specs.Prelude.{Bool, false, cond, ◌&&◌, List, [], ◌∷◌, ◌++◌, ℕ, zero, suc, ◌≤◌, leb, eqb}

-- ---- the grammar

-- %xLO-HI: a range of byte values
pub record In (lo hi b : ℕ) : Type 0 where
  pub low : lo ≤ b
  pub high : b ≤ hi

-- UTF8-tail = %x80-BF
abbrev pub UTF8-tail : ℕ → Type 0
UTF8-tail b = In 0x80 0xBF b

-- UTF8-char = UTF8-1 / UTF8-2 / UTF8-3 / UTF8-4, with one constructor for each alternative, named after its lead byte
pub data UTF8-char : List ℕ → Type 0 where
  -- UTF8-1 = %x00-7F
  UTF8-1 : {a : ℕ} → In 0x00 0x7F a → UTF8-char (a ∷ [])
  -- UTF8-2 = %xC2-DF UTF8-tail
  UTF8-2 : {a b : ℕ} → In 0xC2 0xDF a → UTF8-tail b → UTF8-char (a ∷ b ∷ [])
  -- UTF8-3 = %xE0 %xA0-BF UTF8-tail / %xE1-EC 2( UTF8-tail ) / %xED %x80-9F UTF8-tail / %xEE-EF 2( UTF8-tail )
  UTF8-3-E0 : {b c : ℕ} → In 0xA0 0xBF b → UTF8-tail c → UTF8-char (0xE0 ∷ b ∷ c ∷ [])
  UTF8-3-E1 : {a b c : ℕ} → In 0xE1 0xEC a → UTF8-tail b → UTF8-tail c → UTF8-char (a ∷ b ∷ c ∷ [])
  UTF8-3-ED : {b c : ℕ} → In 0x80 0x9F b → UTF8-tail c → UTF8-char (0xED ∷ b ∷ c ∷ [])
  UTF8-3-EE : {a b c : ℕ} → In 0xEE 0xEF a → UTF8-tail b → UTF8-tail c → UTF8-char (a ∷ b ∷ c ∷ [])
  -- UTF8-4 = %xF0 %x90-BF 2( UTF8-tail ) / %xF1-F3 3( UTF8-tail ) / %xF4 %x80-8F 2( UTF8-tail )
  UTF8-4-F0 : {b c d : ℕ} → In 0x90 0xBF b → UTF8-tail c → UTF8-tail d → UTF8-char (0xF0 ∷ b ∷ c ∷ d ∷ [])
  UTF8-4-F1 : {a b c d : ℕ} → In 0xF1 0xF3 a → UTF8-tail b → UTF8-tail c → UTF8-tail d → UTF8-char (a ∷ b ∷ c ∷ d ∷ [])
  UTF8-4-F4 : {b c d : ℕ} → In 0x80 0x8F b → UTF8-tail c → UTF8-tail d → UTF8-char (0xF4 ∷ b ∷ c ∷ d ∷ [])

-- UTF8-octets = *( UTF8-char )
pub data UTF8-octets : List ℕ → Type 0 where
  nil : UTF8-octets []
  char : {c l : List ℕ} → UTF8-char c → UTF8-octets l → UTF8-octets (c ++ l)

-- ---- the test

-- what a lead byte requires of the bytes after it: `asks n lo hi` requires n tail bytes, the first between lo and hi; `bad` is no lead byte
pub data Lead : Type 0 where
  asks : ℕ → ℕ → ℕ → Lead
  bad : Lead

-- the lead bytes in ascending order, one line for each range
unfoldable pub lead : ℕ → Lead
lead a =
    cond (leb a 0x7F) (asks 0 0x80 0xBF)
    (cond (leb a 0xC1) bad
    (cond (leb a 0xDF) (asks 1 0x80 0xBF)
    (cond (leb a 0xE0) (asks 2 0xA0 0xBF)
    (cond (leb a 0xEC) (asks 2 0x80 0xBF)
    (cond (leb a 0xED) (asks 2 0x80 0x9F)
    (cond (leb a 0xEF) (asks 2 0x80 0xBF)
    (cond (leb a 0xF0) (asks 3 0x90 0xBF)
    (cond (leb a 0xF3) (asks 3 0x80 0xBF)
    (cond (leb a 0xF4) (asks 3 0x80 0x8F)
    bad)))))))))

unfoldable pub within : ℕ → ℕ → ℕ → Bool
within lo hi b = leb lo b && leb b hi

-- whether l is valid where `due` tail bytes must come first, the first of them between lo and hi
unfoldable pub utf8_from : ℕ → ℕ → ℕ → List ℕ → Bool
utf8_from due lo hi [] = eqb due 0
utf8_from zero lo hi (b ∷ l) = elim (lead b) [ asks n lo hi ↦ utf8_from n lo hi l | bad ↦ false ]
utf8_from (suc due) lo hi (b ∷ l) = within lo hi b && utf8_from due 0x80 0xBF l

-- whether l is valid UTF-8
unfoldable pub utf8 : List ℕ → Bool
utf8 l = utf8_from 0 0x80 0xBF l
