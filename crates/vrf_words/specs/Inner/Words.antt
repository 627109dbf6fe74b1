-- Names used in the contracts of `vrf_words`: memory with one word written, and ranges that do not overlap.
use Rattle.std.specs.Prelude.{List, ℕ, ◌+◌, ◌*◌, ◌≤◌}
use Rattle.vrf_bitio.specs.Number.{low_bytes}
use Rattle.vrf_bitio.specs.Pasted.{pasted}

-- memory s after v is written as word i
unfoldable pub set_word : List ℕ → ℕ → ℕ → List ℕ
set_word s i v = pasted s (4 * i) (low_bytes 4 v)

-- the n bytes from a on and the m bytes from b on do not overlap
pub data Apart (a n b m : ℕ) : Type 0 where
  below : a + n ≤ b → Apart a n b m
  above : b + m ≤ a → Apart a n b m
