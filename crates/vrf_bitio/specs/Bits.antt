-- The bits of a byte slice (document 01, Bits). A slice is the list of its bytes; past its end every bit is 0.
use Rattle.std.specs.Prelude.{List, [], ◌∷◌, ℕ, zero, suc, ◌+◌, ◌-◌, ◌*◌, ◌/◌, ◌%◌, ◌^◌, min, ◌<◌, get_or}

-- bit i: bit i mod 8 of byte i div 8, lowest first
unfoldable pub bit_of : List ℕ → ℕ → ℕ
bit_of s i = get_or s (i / 8) 0 / 2 ^ (i % 8) % 2

-- the number made of the w bits from bit p on, low bits first
unfoldable pub bits_of : List ℕ → ℕ → ℕ → ℕ
bits_of s p zero = 0
bits_of s p (suc w) = bit_of s p + 2 * bits_of s (p + 1) w

-- the n whole bytes from bit p on
unfoldable pub bytes_of : List ℕ → ℕ → ℕ → List ℕ
bytes_of s p zero = []
bytes_of s p (suc n) = bits_of s p 8 ∷ bytes_of s (p + 8) n

-- n bits from bit p on, packed into k bytes: what `copy_bits_to` writes. The padding bits of the last byte are 0.
unfoldable pub packed_bits : List ℕ → ℕ → ℕ → ℕ → List ℕ
packed_bits s p n zero = []
packed_bits s p n (suc k) = bits_of s p (min 8 n) ∷ packed_bits s (p + 8) (n - 8) k

-- the number of bytes that hold n bits
abbrev pub bytes_for : ℕ → ℕ
bytes_for n = (n + 7) / 8

-- each element is below 256, as in the list of any `&[u8]`
abbrev pub Bytes : List ℕ → Type 0
Bytes s = (i : ℕ) → get_or s i 0 < 256
