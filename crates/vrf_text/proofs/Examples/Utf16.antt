-- UTF-16, computed: the phrase of RFC 2781, section 5, in both directions, and units that are not a text.
use Rattle.std.specs.Prelude.{List, [], ◌∷◌, ◌≡◌, refl, ℕ}
use Rattle.std.proofs.Math.Option.{none, some}
use Rattle.vrf_text.specs.Utf8.{within}
use Rattle.vrf_text.specs.Utf16.{surrogates, encode_char, encode_utf16, units, kind, pair, before, utf16_from, utf16, utf8_of, utf8_chars, char_of, utf8_decode, units_to_utf8}
use Rattle.vrf_text.proofs.Laws.Utf16.{unit_bytes}

-- `*=Ra`, where `*` is the character 12345
abbrev phrase : List ℕ
phrase = 0x12345 ∷ 0x3D ∷ 0x52 ∷ 0x61 ∷ []

abbrev phrase-units : List ℕ
phrase-units = 0xD808 ∷ 0xDF45 ∷ 0x003D ∷ 0x0052 ∷ 0x0061 ∷ []

-- the RFC's bytes of the phrase as UTF-16LE
abbrev phrase-bytes : List ℕ
phrase-bytes = 0x08 ∷ 0xD8 ∷ 0x45 ∷ 0xDF ∷ 0x3D ∷ 0x00 ∷ 0x52 ∷ 0x00 ∷ 0x61 ∷ 0x00 ∷ []

-- the phrase as UTF-8
abbrev phrase-utf8 : List ℕ
phrase-utf8 = 0xF0 ∷ 0x92 ∷ 0x8D ∷ 0x85 ∷ 0x3D ∷ 0x52 ∷ 0x61 ∷ []

pub record Phrase : Type 0 where
  pub to-units : encode_utf16 phrase ≡ phrase-units
  pub to-bytes : unit_bytes phrase-units ≡ phrase-bytes
  pub from_bytes : units phrase-bytes ≡ phrase-units
  pub from-units : utf16 phrase-units ≡ some phrase
  pub to-utf8 : utf8_chars phrase ≡ phrase-utf8
  pub from-utf8 : utf8_decode phrase-utf8 ≡ phrase
  pub both : units_to_utf8 (units phrase-bytes) ≡ some phrase-utf8

pub the-phrase : Phrase
unfolding surrogates encode_char encode_utf16 unit_bytes units kind pair before utf16_from utf16 utf8_of utf8_chars char_of within utf8_decode units_to_utf8
the-phrase = record {
  to-units = refl;
  to-bytes = refl;
  from_bytes = refl;
  from-units = refl;
  to-utf8 = refl;
  from-utf8 = refl;
  both = refl;
}

-- a surrogate without its partner
pub record No-partner : Type 0 where
  pub high-last : utf16 (0xD800 ∷ []) ≡ none
  pub high-high : utf16 (0xD800 ∷ 0xDBFF ∷ []) ≡ none
  pub high-high-low : utf16 (0xD800 ∷ 0xDBFF ∷ 0xDC00 ∷ []) ≡ none
  pub high-single : utf16 (0xD800 ∷ 0xE000 ∷ []) ≡ none
  pub high-ascii : utf16 (0xDBFF ∷ 0x41 ∷ []) ≡ none
  pub low-DC00 : utf16 (0xDC00 ∷ []) ≡ none
  pub low-DFFF : utf16 (0xDFFF ∷ []) ≡ none
  pub low-high : utf16 (0xDC00 ∷ 0xD800 ∷ []) ≡ none
  pub low-after-text : utf16 (0x41 ∷ 0xDFFF ∷ []) ≡ none

pub no-partner : No-partner
unfolding kind pair before utf16_from utf16
no-partner = record {
  high-last = refl;
  high-high = refl;
  high-high-low = refl;
  high-single = refl;
  high-ascii = refl;
  low-DC00 = refl;
  low-DFFF = refl;
  low-high = refl;
  low-after-text = refl;
}

-- The units and pairs on either side of the surrogates and of 10000, and the last pair. FEFF is a character, not a byte order mark.
pub record Edges : Type 0 where
  pub D7FF : units_to_utf8 (0xD7FF ∷ []) ≡ some (0xED ∷ 0x9F ∷ 0xBF ∷ [])
  pub E000 : units_to_utf8 (0xE000 ∷ []) ≡ some (0xEE ∷ 0x80 ∷ 0x80 ∷ [])
  pub FEFF : units_to_utf8 (0xFEFF ∷ []) ≡ some (0xEF ∷ 0xBB ∷ 0xBF ∷ [])
  pub FFFF : units_to_utf8 (0xFFFF ∷ []) ≡ some (0xEF ∷ 0xBF ∷ 0xBF ∷ [])
  pub first-pair : units_to_utf8 (0xD800 ∷ 0xDC00 ∷ []) ≡ some (0xF0 ∷ 0x90 ∷ 0x80 ∷ 0x80 ∷ [])
  pub first-of-W2 : units_to_utf8 (0xDBFF ∷ 0xDC00 ∷ []) ≡ some (0xF4 ∷ 0x8F ∷ 0xB0 ∷ 0x80 ∷ [])
  pub last-pair : units_to_utf8 (0xDBFF ∷ 0xDFFF ∷ []) ≡ some (0xF4 ∷ 0x8F ∷ 0xBF ∷ 0xBF ∷ [])
  pub odd_byte : units (0x41 ∷ 0x00 ∷ 0x42 ∷ []) ≡ 0x41 ∷ []

pub edges : Edges
unfolding units kind pair before utf16_from utf16 utf8_of utf8_chars units_to_utf8
edges = record {
  D7FF = refl;
  E000 = refl;
  FEFF = refl;
  FFFF = refl;
  first-pair = refl;
  first-of-W2 = refl;
  last-pair = refl;
  odd_byte = refl;
}
