-- The limits of RFC 3629's grammar, computed: bytes that the test `utf8` refuses, and bytes that it accepts.
use Rattle.std.specs.Prelude.{true, false, [], ◌∷◌, ◌≡◌, refl}
use Rattle.vrf_text.specs.Utf8.{lead, within, utf8_from, utf8}

-- the bytes that begin no character: the tail bytes, C0 and C1 (they would begin a longer encoding of ASCII), and the bytes above F4
pub record No-lead : Type 0 where
  pub tail-80 : utf8 (0x80 ∷ []) ≡ false
  pub tail-BF : utf8 (0xBF ∷ []) ≡ false
  pub tail-BF-80 : utf8 (0xBF ∷ 0x80 ∷ []) ≡ false
  pub longer-C0 : utf8 (0xC0 ∷ 0x80 ∷ []) ≡ false
  pub longer-C1 : utf8 (0xC1 ∷ 0xBF ∷ []) ≡ false
  pub above-F5 : utf8 (0xF5 ∷ 0x80 ∷ 0x80 ∷ 0x80 ∷ []) ≡ false
  pub above-F8 : utf8 (0xF8 ∷ []) ≡ false
  pub above-F8-90 : utf8 (0xF8 ∷ 0x90 ∷ 0x80 ∷ 0x80 ∷ []) ≡ false
  pub above-FF : utf8 (0xFF ∷ []) ≡ false

pub no_lead : No-lead
unfolding utf8 utf8_from lead within
no_lead = record {
  tail-80 = refl;
  tail-BF = refl;
  tail-BF-80 = refl;
  longer-C0 = refl;
  longer-C1 = refl;
  above-F5 = refl;
  above-F8 = refl;
  above-F8-90 = refl;
  above-FF = refl;
}

-- a required tail byte that is not a tail byte, or is missing
pub record No-tail : Type 0 where
  pub second-7_f : utf8 (0xC3 ∷ 0x7F ∷ []) ≡ false
  pub second-C0 : utf8 (0xC3 ∷ 0xC0 ∷ []) ≡ false
  pub second-C3 : utf8 (0xC3 ∷ 0xC3 ∷ []) ≡ false
  pub second-lacking : utf8 (0xC3 ∷ []) ≡ false
  pub third-41 : utf8 (0xE1 ∷ 0x80 ∷ 0x41 ∷ []) ≡ false
  pub third-C0 : utf8 (0xE1 ∷ 0x80 ∷ 0xC0 ∷ []) ≡ false
  pub third-lacking : utf8 (0xE1 ∷ 0x80 ∷ []) ≡ false
  pub fourth-41 : utf8 (0xF1 ∷ 0x80 ∷ 0x80 ∷ 0x41 ∷ []) ≡ false
  pub fourth-C0 : utf8 (0xF1 ∷ 0x80 ∷ 0x80 ∷ 0xC0 ∷ []) ≡ false
  pub fourth-lacking : utf8 (0xF1 ∷ 0x80 ∷ 0x80 ∷ []) ≡ false

pub no-tail : No-tail
unfolding utf8 utf8_from lead within
no-tail = record {
  second-7_f = refl;
  second-C0 = refl;
  second-C3 = refl;
  second-lacking = refl;
  third-41 = refl;
  third-C0 = refl;
  third-lacking = refl;
  fourth-41 = refl;
  fourth-C0 = refl;
  fourth-lacking = refl;
}

-- The lead bytes whose second byte has a narrower range: a byte just outside it, and a byte just inside it. Outside it E0 and F0 would
-- begin a longer encoding, ED a surrogate, and F4 a number above 10FFFF.
pub record Narrower : Type 0 where
  pub E0-9F : utf8 (0xE0 ∷ 0x9F ∷ 0xBF ∷ []) ≡ false
  pub E0-A0 : utf8 (0xE0 ∷ 0xA0 ∷ 0x80 ∷ []) ≡ true
  pub ED-9F : utf8 (0xED ∷ 0x9F ∷ 0xBF ∷ []) ≡ true
  pub ED-A0 : utf8 (0xED ∷ 0xA0 ∷ 0x80 ∷ []) ≡ false
  pub ED-AF : utf8 (0xED ∷ 0xAF ∷ 0xBF ∷ []) ≡ false
  pub ED-B0 : utf8 (0xED ∷ 0xB0 ∷ 0x80 ∷ []) ≡ false
  pub ED-BF : utf8 (0xED ∷ 0xBF ∷ 0xBF ∷ []) ≡ false
  pub EE-80 : utf8 (0xEE ∷ 0x80 ∷ 0x80 ∷ []) ≡ true
  pub F0-8F : utf8 (0xF0 ∷ 0x8F ∷ 0xBF ∷ 0xBF ∷ []) ≡ false
  pub F0-90 : utf8 (0xF0 ∷ 0x90 ∷ 0x80 ∷ 0x80 ∷ []) ≡ true
  pub F4-8F : utf8 (0xF4 ∷ 0x8F ∷ 0xBF ∷ 0xBF ∷ []) ≡ true
  pub F4-90 : utf8 (0xF4 ∷ 0x90 ∷ 0x80 ∷ 0x80 ∷ []) ≡ false

pub narrower : Narrower
unfolding utf8 utf8_from lead within
narrower = record {
  E0-9F = refl;
  E0-A0 = refl;
  ED-9F = refl;
  ED-A0 = refl;
  ED-AF = refl;
  ED-B0 = refl;
  ED-BF = refl;
  EE-80 = refl;
  F0-8F = refl;
  F0-90 = refl;
  F4-8F = refl;
  F4-90 = refl;
}

-- the first and the last lead byte of each range that allows any tail bytes, and the byte 0
pub record Accepted : Type 0 where
  pub zero-byte : utf8 (0x00 ∷ []) ≡ true
  pub last-ascii : utf8 (0x7F ∷ []) ≡ true
  pub C2 : utf8 (0xC2 ∷ 0x80 ∷ []) ≡ true
  pub DF : utf8 (0xDF ∷ 0xBF ∷ []) ≡ true
  pub E1 : utf8 (0xE1 ∷ 0x80 ∷ 0xBF ∷ []) ≡ true
  pub EC : utf8 (0xEC ∷ 0xBF ∷ 0x80 ∷ []) ≡ true
  pub EF : utf8 (0xEF ∷ 0xBF ∷ 0xBF ∷ []) ≡ true
  pub F1 : utf8 (0xF1 ∷ 0x80 ∷ 0xBF ∷ 0x80 ∷ []) ≡ true
  pub F3 : utf8 (0xF3 ∷ 0xBF ∷ 0x80 ∷ 0xBF ∷ []) ≡ true

pub accepted : Accepted
unfolding utf8 utf8_from lead within
accepted = record {
  zero-byte = refl;
  last-ascii = refl;
  C2 = refl;
  DF = refl;
  E1 = refl;
  EC = refl;
  EF = refl;
  F1 = refl;
  F3 = refl;
}
