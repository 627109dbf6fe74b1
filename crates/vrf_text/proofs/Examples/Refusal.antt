-- Texts on the wire that are refused, computed: each of document 01's checks at its limit, and which of two comes first.
use Rattle.std.specs.Prelude.{List, [], ◌∷◌, ◌++◌, ◌≡◌, refl, ℕ, ◌+◌, ◌≤◌, length, take, drop, replicate}
use Rattle.std.proofs.Common.{le-ltb}
use Rattle.vrf_bitio.specs.Reading.{◌>>=◌, ok, refused, position, bind_read}
use Rattle.vrf_bitio.specs.Number.{word32, low_bytes, encode_word32}
use Rattle.vrf_text.specs.Utf8.{lead, within, utf8_from, utf8}
use Rattle.vrf_text.specs.Utf16.{units, kind, pair, before, utf16_from, utf16, utf8_of, utf8_chars, units_to_utf8}
use Rattle.vrf_text.specs.Text.{text_bytes, drop_zero, as_utf8, checked, text8, text16, text_of, fstring, into_target, fstring_into}

-- n bytes, each of them b, after their length word
abbrev all : ℕ → ℕ → List ℕ
all n b = encode_word32 n ++ replicate n b

-- 13 before 14; the details of 13 are the start and the length as unsigned 32 bits
pub record LengthRefusals : Type 0 where
  pub word-lacking : fstring 7 (0x01 ∷ 0x00 ∷ 0x00 ∷ []) ≡ refused 10 7 32
  pub byte-lacking : fstring 7 (0x02 ∷ 0x00 ∷ 0x00 ∷ 0x00 ∷ 0x41 ∷ []) ≡ refused 13 7 2
  pub bad-and-lacking : fstring 7 (0x02 ∷ 0x00 ∷ 0x00 ∷ 0x00 ∷ 0xFF ∷ []) ≡ refused 13 7 2
  pub half-unit : fstring 7 (0xFF ∷ 0xFF ∷ 0xFF ∷ 0xFF ∷ 0x41 ∷ []) ≡ refused 13 7 4294967295
  pub bad-and-unit-lacking : fstring 7 (0xFE ∷ 0xFF ∷ 0xFF ∷ 0xFF ∷ 0x00 ∷ 0xD8 ∷ []) ≡ refused 13 7 4294967294
  -- -2,147,483,648 units
  pub lowest : fstring 7 (0x00 ∷ 0x00 ∷ 0x00 ∷ 0x80 ∷ 0x41 ∷ []) ≡ refused 13 7 2147483648
  -- 1,048,577 bytes and 524,289 units, whatever follows the length word
  pub bytes-top : (l : List ℕ) → fstring 7 (0x01 ∷ 0x00 ∷ 0x10 ∷ 0x00 ∷ l) ≡ refused 13 7 1048577
  pub units-top : (l : List ℕ) → fstring 7 (0xFF ∷ 0xFF ∷ 0xF7 ∷ 0xFF ∷ l) ≡ refused 13 7 4294443007

pub length-refused : LengthRefusals
unfolding position bind_read ◌>>=◌ word32 text_bytes text8 text16 text_of fstring
length-refused = record {
  word-lacking = refl;
  byte-lacking = refl;
  bad-and-lacking = refl;
  half-unit = refl;
  bad-and-unit-lacking = refl;
  lowest = refl;
  bytes-top = λ l. refl;
  units-top = λ l. refl;
}

-- 1,048,576 bytes are taken if they are there
pub most_bytes : (start w pos : ℕ) (l : List ℕ) → 1048576 ≤ length l
    → text_bytes start w 1048576 pos l ≡ ok (take 1048576 l) (pos + 8388608) (drop 1048576 l)
unfolding text_bytes
most_bytes start w pos l h = rw (le-ltb (length l) 1048576 h)

-- 14 before 41, and 41 before 15; 41 counts the bytes as UTF-8
pub record TextRefusals : Type 0 where
  pub bad-byte : fstring 40 (0x01 ∷ 0x00 ∷ 0x00 ∷ 0x00 ∷ 0xFF ∷ []) ≡ refused 14 40 0
  pub bad-unit : fstring 40 (0xFF ∷ 0xFF ∷ 0xFF ∷ 0xFF ∷ 0x00 ∷ 0xD8 ∷ []) ≡ refused 14 40 0
  pub long-and-bad : fstring 0 (all 4097 0xFF) ≡ refused 14 0 0
  pub long-and-bad-at-the-end : fstring 0 (encode_word32 4098 ++ (replicate 4097 0x41 ++ (0xFF ∷ []))) ≡ refused 14 0 0
  pub long-and-bad-units : fstring 0 (encode_word32 4294965247 ++ replicate 4098 0xD8) ≡ refused 14 0 0
  pub long : fstring 0 (all 4097 0x41) ≡ refused 41 4097 0
  pub long-units : fstring 0 (encode_word32 4294965247 ++ replicate 4098 0x41) ≡ refused 41 6147 0
  pub short-target : fstring_into 1 0 (0x02 ∷ 0x00 ∷ 0x00 ∷ 0x00 ∷ 0x41 ∷ 0x42 ∷ []) ≡ refused 15 16 8
  pub bad-and-short-target : fstring_into 0 0 (0x01 ∷ 0x00 ∷ 0x00 ∷ 0x00 ∷ 0xFF ∷ []) ≡ refused 14 0 0
  pub long-and-short-target : fstring_into 1 0 (all 4097 0x41) ≡ refused 41 4097 0

pub bad-refused : TextRefusals
unfolding position bind_read ◌>>=◌ word32 low_bytes encode_word32 lead within utf8_from utf8 units kind pair before utf16_from utf16 utf8_of utf8_chars units_to_utf8 text_bytes drop_zero as_utf8 checked text8 text16 text_of fstring into_target fstring_into
bad-refused = record {
  bad-byte = refl;
  bad-unit = refl;
  long-and-bad = refl;
  long-and-bad-at-the-end = refl;
  long-and-bad-units = refl;
  long = refl;
  long-units = refl;
  short-target = refl;
  bad-and-short-target = refl;
  long-and-short-target = refl;
}
