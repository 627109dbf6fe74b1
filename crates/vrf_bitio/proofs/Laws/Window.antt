-- Laws of windows: the bytes left at a position, and the outcome of reading a byte or a word there.
use Rattle.std.specs.Prelude.{◌≡◌, refl, List, [], ◌∷◌, length}
use Rattle.std.proofs.Common.{ap, ◌∙◌, le-ltb}
use Prim.Native.Nat.{ℕ, suc, ◌+◌, ◌-◌, ◌*◌, ◌/◌, ◌<◌, ◌≤◌, min}
use Rattle.std.proofs.Math.Nat.{div-eq_of_lt}
use native.Mathlib.Omega.{arith}
use Rattle.std.proofs.Math.Seq.{take-length}
use Rattle.vrf_bitio.specs.Bits.{bits_of, bytes_of, Bytes}
use Rattle.vrf_bitio.specs.Reading.{ok, refused}
use Rattle.vrf_bitio.specs.Window.{rest, window}
use Rattle.vrf_bitio.specs.Number.{byte, word32}
use Rattle.vrf_bitio.proofs.Laws.Runs.{run_length, bytes_run}
use Rattle.vrf_bitio.proofs.Laws.Bits.{bits-split, bytes-aligned}

pub bytes-length : (s : List ℕ) (p n : ℕ) → length (bytes_of s p n) ≡ n
bytes-length s p n = rw (bytes_run s p n) (run_length 8 s p n)

module _ (s : List ℕ) (first count pos : ℕ) where
  pub rest-length : length (rest s first count pos) ≡ (count - pos) / 8
  unfolding rest
  rest-length = bytes-length s (first + pos) ((count - pos) / 8)

  -- fewer than eight bits: no byte
  pub rest-nil : count - pos < 8 → rest s first count pos ≡ []
  unfolding rest bytes_of
  rest-nil h = rw (div-eq_of_lt h)

  -- eight bits or more: a byte, and what is left after it
  pub rest-cons : 8 ≤ count - pos → rest s first count pos ≡ bits_of s (first + pos) 8 ∷ rest s first count (pos + 8)
  unfolding rest bytes_of
  rest-cons h =
      let one : (count - pos) / 8 ≡ suc ((count - (pos + 8)) / 8) = omega arith in
      let next : first + (pos + 8) ≡ first + pos + 8 = omega arith in
      rw (one, next)

pub word-short : (pos : ℕ) (l : List ℕ) → length l < 4 → word32 pos l ≡ refused 10 pos 32
unfolding word32
word-short pos [] h = refl
word-short pos (a ∷ []) h = refl
word-short pos (a ∷ b ∷ []) h = refl
word-short pos (a ∷ b ∷ c ∷ []) h = refl
word-short pos (a ∷ b ∷ c ∷ d ∷ l) h = absurd (omega arith)

module _ (s : List ℕ) (first count pos : ℕ) where
  pub byte-lacks : count - pos < 8 → byte pos (rest s first count pos) ≡ refused 10 pos 8
  unfolding byte
  byte-lacks h = rw (rest-nil s first count pos)

  pub byte-found : 8 ≤ count - pos → byte pos (rest s first count pos) ≡ ok (bits_of s (first + pos) 8) (pos + 8) (rest s first count (pos + 8))
  unfolding byte
  byte-found h = rw (rest-cons s first count pos)

  four : 32 ≤ count - pos → rest s first count pos
      ≡ bits_of s (first + pos) 8 ∷ bits_of s (first + (pos + 8)) 8 ∷ bits_of s (first + (pos + 16)) 8 ∷ bits_of s (first + (pos + 24)) 8 ∷ rest s first count (pos + 32)
  four h =
      let e2 : pos + 8 + 8 ≡ pos + 16 = omega arith in
      let e3 : pos + 16 + 8 ≡ pos + 24 = omega arith in
      let e4 : pos + 24 + 8 ≡ pos + 32 = omega arith in
      let h1 : 8 ≤ count - pos = omega arith in
      let h2 : 8 ≤ count - (pos + 8) = omega arith in
      let h3 : 8 ≤ count - (pos + 16) = omega arith in
      let h4 : 8 ≤ count - (pos + 24) = omega arith in
      rw (rest-cons s first count pos, rest-cons s first count (pos + 8), e2, rest-cons s first count (pos + 16), e3, rest-cons s first count (pos + 24), e4)

  sum : bits_of s (first + pos) 32
      ≡ bits_of s (first + pos) 8 + 256 * bits_of s (first + (pos + 8)) 8 + 65536 * bits_of s (first + (pos + 16)) 8 + 16777216 * bits_of s (first + (pos + 24)) 8
  sum =
      let e1 : first + pos + 8 ≡ first + (pos + 8) = omega arith in
      let e2 : first + (pos + 8) + 8 ≡ first + (pos + 16) = omega arith in
      let e3 : first + (pos + 16) + 8 ≡ first + (pos + 24) = omega arith in
      rw (bits-split s (first + pos) 8 24, e1, bits-split s (first + (pos + 8)) 8 16, e2, bits-split s (first + (pos + 16)) 8 8, e3) (omega arith)

  pub word-found : 32 ≤ count - pos → word32 pos (rest s first count pos) ≡ ok (bits_of s (first + pos) 32) (pos + 32) (rest s first count (pos + 32))
  unfolding word32
  word-found h = rw (four h, sum)

  pub word-lacks : count - pos < 32 → word32 pos (rest s first count pos) ≡ refused 10 pos 32
  word-lacks h = word-short pos (rest s first count pos) (rw rest-length (omega arith))

-- the window of all bits of a slice
pub window-whole : (s : List ℕ) → Bytes s → length s ≤ 268435456 → window s 0 (8 * length s) ≡ ok (0, 8 * length s) 0 s
unfolding window rest
window-whole s h fits =
    let all : (8 * length s - 0) / 8 ≡ length s = omega arith in
    let none : min 0 (8 * length s) ≡ 0 = omega arith in
    let space : 8 * length s ≤ 8 * length s - 0 = omega arith in
    let bytes : bytes_of s (8 * 0) (length s) ≡ s = bytes-aligned s h (length s) 0 (omega arith) ∙ take-length s in
    rw (le-ltb 268435456 (length s) fits, le-ltb (8 * length s - 0) (8 * length s) space, all, none) (ap (λ (l : List ℕ). ok (0, 8 * length s) 0 l) bytes)
