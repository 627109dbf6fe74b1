-- Texts on the wire that are read, computed: their bytes, the position after them, and one final zero dropped.
use Rattle.std.specs.Prelude.{[], ◌∷◌, ◌++◌, ◌≡◌, refl, replicate}
use Rattle.vrf_bitio.specs.Reading.{◌>>=◌, ok, return, position, bind_read}
use Rattle.vrf_bitio.specs.Number.{word32, low_bytes, encode_word32}
use Rattle.vrf_text.specs.Utf8.{lead, within, utf8_from, utf8}
use Rattle.vrf_text.specs.Utf16.{units, kind, pair, before, utf16_from, utf16, utf8_of, utf8_chars, units_to_utf8}
use Rattle.vrf_text.specs.Text.{text_bytes, drop_zero, as_utf8, checked, text8, text16, text_of, fstring, into_target, fstring_into, encode_text}

-- n bytes of UTF-8, after the length word n
pub record Utf8Texts : Type 0 where
  pub empty : fstring 0 (0x00 ∷ 0x00 ∷ 0x00 ∷ 0x00 ∷ 0x41 ∷ []) ≡ ok [] 32 (0x41 ∷ [])
  pub no_zero : fstring 0 (0x01 ∷ 0x00 ∷ 0x00 ∷ 0x00 ∷ 0x41 ∷ 0x42 ∷ []) ≡ ok (0x41 ∷ []) 40 (0x42 ∷ [])
  pub zero-dropped : fstring 5 (0x02 ∷ 0x00 ∷ 0x00 ∷ 0x00 ∷ 0x41 ∷ 0x00 ∷ []) ≡ ok (0x41 ∷ []) 53 []
  pub one-zero-dropped : fstring 0 (0x03 ∷ 0x00 ∷ 0x00 ∷ 0x00 ∷ 0x41 ∷ 0x00 ∷ 0x00 ∷ []) ≡ ok (0x41 ∷ 0x00 ∷ []) 56 []
  pub only_zero : fstring 0 (0x01 ∷ 0x00 ∷ 0x00 ∷ 0x00 ∷ 0x00 ∷ []) ≡ ok [] 40 []
  pub inner-zero : fstring 0 (0x03 ∷ 0x00 ∷ 0x00 ∷ 0x00 ∷ 0x41 ∷ 0x00 ∷ 0x42 ∷ []) ≡ ok (0x41 ∷ 0x00 ∷ 0x42 ∷ []) 56 []
  pub into-space : fstring_into 2 0 (0x02 ∷ 0x00 ∷ 0x00 ∷ 0x00 ∷ 0x41 ∷ 0x42 ∷ []) ≡ ok (0x41 ∷ 0x42 ∷ []) 48 []
  -- the longest text that is accepted, with its zero byte
  pub longest : fstring 0 (encode_word32 4097 ++ (replicate 4096 0x41 ++ (0x00 ∷ []))) ≡ ok (replicate 4096 0x41) 32808 []

pub bytes : Utf8Texts
unfolding return position bind_read ◌>>=◌ word32 low_bytes encode_word32 lead within utf8_from utf8 text_bytes drop_zero as_utf8 checked text8 text_of fstring into_target fstring_into
bytes = record {
  empty = refl;
  no_zero = refl;
  zero-dropped = refl;
  one-zero-dropped = refl;
  only_zero = refl;
  inner-zero = refl;
  into-space = refl;
  longest = refl;
}

-- n units of UTF-16, after the length word -n
pub record Utf16Texts : Type 0 where
  pub no_zero : fstring 0 (0xFF ∷ 0xFF ∷ 0xFF ∷ 0xFF ∷ 0xE9 ∷ 0x00 ∷ 0x42 ∷ []) ≡ ok (0xC3 ∷ 0xA9 ∷ []) 48 (0x42 ∷ [])
  pub zero-dropped : fstring 5 (0xFE ∷ 0xFF ∷ 0xFF ∷ 0xFF ∷ 0x41 ∷ 0x00 ∷ 0x00 ∷ 0x00 ∷ []) ≡ ok (0x41 ∷ []) 69 []
  pub one-zero-dropped : fstring 0 (0xFD ∷ 0xFF ∷ 0xFF ∷ 0xFF ∷ 0x41 ∷ 0x00 ∷ 0x00 ∷ 0x00 ∷ 0x00 ∷ 0x00 ∷ []) ≡ ok (0x41 ∷ 0x00 ∷ []) 80 []
  pub only_zero : fstring 0 (0xFF ∷ 0xFF ∷ 0xFF ∷ 0xFF ∷ 0x00 ∷ 0x00 ∷ []) ≡ ok [] 48 []
  -- a unit is 0 only if both its bytes are 0: 4100 is kept
  pub half-zero : fstring 0 (0xFF ∷ 0xFF ∷ 0xFF ∷ 0xFF ∷ 0x00 ∷ 0x41 ∷ []) ≡ ok (0xE4 ∷ 0x84 ∷ 0x80 ∷ []) 48 []
  -- FEFF is a character, not a byte order mark
  pub FEFF : fstring 0 (0xFE ∷ 0xFF ∷ 0xFF ∷ 0xFF ∷ 0xFF ∷ 0xFE ∷ 0x41 ∷ 0x00 ∷ []) ≡ ok (0xEF ∷ 0xBB ∷ 0xBF ∷ 0x41 ∷ []) 64 []

pub units-read : Utf16Texts
unfolding return position bind_read ◌>>=◌ word32 units kind pair before utf16_from utf16 utf8_of utf8_chars units_to_utf8 text_bytes drop_zero checked text16 text_of fstring
units-read = record {
  no_zero = refl;
  zero-dropped = refl;
  one-zero-dropped = refl;
  only_zero = refl;
  half-zero = refl;
  FEFF = refl;
}

-- texts as the writer sends them
pub record WrittenTexts : Type 0 where
  pub empty : encode_text [] ≡ 0x00 ∷ 0x00 ∷ 0x00 ∷ 0x00 ∷ []
  pub counted : encode_text (0x41 ∷ 0x42 ∷ []) ≡ 0x03 ∷ 0x00 ∷ 0x00 ∷ 0x00 ∷ 0x41 ∷ 0x42 ∷ 0x00 ∷ []

pub written : WrittenTexts
unfolding low_bytes encode_word32 encode_text
written = record { empty = refl; counted = refl }
