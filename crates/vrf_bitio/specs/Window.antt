-- Windows (document 01, Bits): a window is bytes, a first bit and a bit count; positions are bits from its first bit.
use Rattle.std.specs.Prelude.{cond, List, ℕ, ◌+◌, ◌-◌, ◌*◌, ◌/◌, min, ltb, length}
use Rattle.vrf_bitio.specs.Bits.{bits_of, bytes_of, packed_bits, bytes_for}
use Rattle.vrf_bitio.specs.Reading.{Read, ok, refused, bind_read}

-- the whole bytes left in a window at a position
unfoldable pub rest : List ℕ → ℕ → ℕ → ℕ → List ℕ
rest s first count pos = bytes_of s (first + pos) ((count - pos) / 8)

-- Opening a window, which answers its first bit and its bit count. 43: over 268,435,456 bytes. 15: count beyond the bits after the first
-- bit. An empty window past the end is not refused; its first bit is then the end of the slice.
unfoldable pub window : List ℕ → ℕ → ℕ → Read (ℕ × ℕ)
window s first count =
    cond (ltb 268435456 (length s)) (refused 43 0 0)
    (cond (ltb (8 * length s - first) count) (refused 15 count (8 * length s - first))
    (ok (min first (8 * length s), count) 0 (rest s first count 0)))

-- w bits from a position on. 16: a width over 64. 10: too few bits left.
unfoldable pub bits : List ℕ → ℕ → ℕ → ℕ → ℕ → Read ℕ
bits s first count w pos =
    cond (ltb 64 w) (refused 16 w 0)
    (cond (ltb (count - pos) w) (refused 10 pos w)
    (ok (bits_of s (first + pos) w) (pos + w) (rest s first count (pos + w))))

-- n bits copied into a target of m bytes. 15: the target is too short. 10: too few bits left.
unfoldable pub copied : List ℕ → ℕ → ℕ → ℕ → ℕ → ℕ → Read (List ℕ)
copied s first count m n pos =
    cond (ltb m (bytes_for n)) (refused 15 n (8 * m))
    (cond (ltb (count - pos) n) (refused 10 pos n)
    (ok (packed_bits s (first + pos) n (bytes_for n)) (pos + n) (rest s first count (pos + n))))

-- The window of the next n bits; the outer position is then after them. 10: too few bits left. Then the refusals of `window`.
unfoldable pub inner : List ℕ → ℕ → ℕ → ℕ → ℕ → Read (ℕ × ℕ)
inner s first count n pos =
    cond (ltb (count - pos) n) (refused 10 pos n)
    (bind_read (λ w p l. ok w (pos + n) (rest s first count (pos + n))) (window s (first + pos) n))
