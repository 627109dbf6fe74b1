-- A character written as UTF-8: the bytes that its range of character numbers takes, stored one by one.
use mathlib.Core.List.{List, [], ◌∷◌, append_assoc}
use mathlib.Core.Path.{◌≡◌, sym, ap, ◌∙◌}
use Prim.Native.Nat.{ℕ, ◌+◌, ◌/◌, ◌%◌, ◌≤◌, ◌<◌}
use native.Mathlib.Numerals.{add-one, add-two, add-three}
use native.Mathlib.Omega.{arith}
use lib.ListN.{length, take, drop, set}
use lib.Seq.{sets, sets-eq}
use borrow.Author.Tests.{le-leb, lt-leb}
use Rattle.vrf_bitio.specs.Pasted.{pasted}
use Rattle.vrf_text.specs.Utf16.{utf8_of}

module _ (u : ℕ) where
  of-1 : u < 0x80 → utf8_of u ≡ u ∷ []
  unfolding utf8_of
  of-1 h = rw (le-leb u 0x7F (omega arith))

  of-2 : 0x80 ≤ u → u < 0x800 → utf8_of u ≡ (0xC0 + u / 64) ∷ (0x80 + u % 64) ∷ []
  unfolding utf8_of
  of-2 h k = rw (lt-leb u 0x7F h, le-leb u 0x7FF (omega arith))

  of-3 : 0x800 ≤ u → u < 0x10000 → utf8_of u ≡ (0xE0 + u / 4096) ∷ (0x80 + u / 64 % 64) ∷ (0x80 + u % 64) ∷ []
  unfolding utf8_of
  of-3 h k = rw (lt-leb u 0x7F (omega arith), lt-leb u 0x7FF h, le-leb u 0xFFFF (omega arith))

  of-4 : 0x10000 ≤ u → utf8_of u ≡ (0xF0 + u / 262144) ∷ (0x80 + u / 4096 % 64) ∷ (0x80 + u / 64 % 64) ∷ (0x80 + u % 64) ∷ []
  unfolding utf8_of
  of-4 h = rw (lt-leb u 0x7F (omega arith), lt-leb u 0x7FF (omega arith), lt-leb u 0xFFFF h)

  pub length-1 : u < 0x80 → 1 ≡ length (utf8_of u)
  length-1 h = ap length (sym (of-1 h))

  pub length-2 : 0x80 ≤ u → u < 0x800 → 2 ≡ length (utf8_of u)
  length-2 h k = ap length (sym (of-2 h k))

  pub length-3 : 0x800 ≤ u → u < 0x10000 → 3 ≡ length (utf8_of u)
  length-3 h k = ap length (sym (of-3 h k))

  pub length-4 : 0x10000 ≤ u → 4 ≡ length (utf8_of u)
  length-4 h = ap length (sym (of-4 h))

-- the list after the stores
module _ (l : List ℕ) (at u : ℕ) (fits : at + length (utf8_of u) ≤ length l) where
  stored : {v : List ℕ} → utf8_of u ≡ v → sets l at v ≡ pasted l at (utf8_of u)
  unfolding pasted
  stored {v} e = rw e (sets-eq v l at (rw e at fits) ∙ append_assoc (take at l) v (drop (at + length v) l))

  pub put_1 : u < 0x80 → set l at u ≡ pasted l at (utf8_of u)
  put_1 h = stored (of-1 u h)

  pub put_2 : 0x80 ≤ u → u < 0x800 → set (set l at (0xC0 + u / 64)) (at + 1) (0x80 + u % 64) ≡ pasted l at (utf8_of u)
  put_2 h k = rw (add-one at) (stored (of-2 u h k))

  pub put_3 : 0x800 ≤ u → u < 0x10000
      → set (set (set l at (0xE0 + u / 4096)) (at + 1) (0x80 + u / 64 % 64)) (at + 2) (0x80 + u % 64) ≡ pasted l at (utf8_of u)
  put_3 h k = rw (add-one at, add-two at) (stored (of-3 u h k))

  pub put_4 : 0x10000 ≤ u
      → set (set (set (set l at (0xF0 + u / 262144)) (at + 1) (0x80 + u / 4096 % 64)) (at + 2) (0x80 + u / 64 % 64)) (at + 3) (0x80 + u % 64) ≡ pasted l at (utf8_of u)
  put_4 h = rw (add-one at, add-two at, add-three at) (stored (of-4 u h))
