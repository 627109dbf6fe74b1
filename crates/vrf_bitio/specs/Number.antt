-- Numbers of whole bytes (document 01, Bits): bytes, 32-bit words and packed numbers, as they are read and as the writer sends them.
use Rattle.std.specs.Prelude.{cond, List, [], ◌∷◌, ◌≡◌, ℕ, zero, suc, ◌+◌, ◌-◌, ◌*◌, ◌/◌, ◌%◌, ◌^◌, ◌≤◌, ltb, eqb, ℤ, length, take, drop}
use Rattle.vrf_bitio.specs.Reading.{ok, refused, Reader, return, ◌>>=◌}

unfoldable pub byte : Reader ℕ
byte pos [] = refused 10 pos 8
byte pos (b ∷ l) = ok b (pos + 8) l

-- the next n bytes
unfoldable pub bytes : ℕ → Reader (List ℕ)
bytes n pos l = cond (ltb (length l) n) (refused 10 pos (8 * n)) (ok (take n l) (pos + 8 * n) (drop n l))

-- a word of 32 bits, low byte first
unfoldable pub word32 : Reader ℕ
word32 pos [] = refused 10 pos 32
word32 pos (a ∷ []) = refused 10 pos 32
word32 pos (a ∷ b ∷ []) = refused 10 pos 32
word32 pos (a ∷ b ∷ c ∷ []) = refused 10 pos 32
word32 pos (a ∷ b ∷ c ∷ d ∷ l) = ok (a + 256 * b + 65536 * c + 16777216 * d) (pos + 32) l

-- a word of 32 bits as a signed number, in two's complement
unfoldable pub signed : ℕ → ℤ
signed w = cond (ltb w (2 ^ 31)) (ℤ.pos w) (ℤ.negsuc (2 ^ 32 - suc w))

unfoldable pub int32 : Reader ℤ
int32 = do
  w ← word32
  return (signed w)

-- The bytes of a packed number that began at `start`. The low bit of a byte is 1 if another byte follows; its upper seven bits are the next
-- chunk, lowest first. `more` is how many bytes may follow this one, `low` the value of the earlier chunks, `weight` this one's factor.
-- At the fifth byte refusal 11 is tested before refusal 12.
unfoldable pub chunks : ℕ → ℕ → ℕ → ℕ → Reader ℕ
chunks start zero weight low = do
  b ← byte
  cond (eqb (b % 2) 1) (λ pos l. refused 11 start 0)
      (cond (ltb 15 (b / 2)) (λ pos l. refused 12 start 0)
      (return (low + weight * (b / 2))))
chunks start (suc more) weight low = do
  b ← byte
  cond (eqb (b % 2) 1) (chunks start more (weight * 128) (low + weight * (b / 2)))
      (return (low + weight * (b / 2)))

-- a packed number: up to five bytes, not necessarily the fewest
unfoldable pub packed : Reader ℕ
packed start = chunks start 4 1 0 start

-- the low k bytes of a number, low byte first
unfoldable pub low_bytes : ℕ → ℕ → List ℕ
low_bytes zero n = []
low_bytes (suc k) n = n % 256 ∷ low_bytes k (n / 256)

-- the bytes that the writer sends for a 32-bit word
unfoldable pub encode_word32 : ℕ → List ℕ
encode_word32 n = low_bytes 4 n

-- The bytes that the writer sends for a packed number: the fewest (`packed-fewest` of proofs/Laws/Fewest.antt). `more` is how many bytes may
-- follow this one.
unfoldable pub encode_chunks : ℕ → ℕ → List ℕ
encode_chunks zero n = 2 * n ∷ []
encode_chunks (suc more) n = cond (ltb n 128) (2 * n ∷ []) ((2 * (n % 128) + 1) ∷ encode_chunks more (n / 128))

unfoldable pub encode_packed : ℕ → List ℕ
encode_packed n = encode_chunks 4 n

-- A reading that started at position pos with the bytes l left, and ended at position p with m left, took `taken` bytes, and few ≤ taken.
pub record TakesAtLeast (few pos : ℕ) (l : List ℕ) (p : ℕ) (m : List ℕ) : Type 0 where
  pub taken : ℕ
  pub place : p ≡ pos + 8 * taken
  pub left : length l ≡ taken + length m
  pub fewest : few ≤ taken
