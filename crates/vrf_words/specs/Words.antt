-- A lent memory is the list of its bytes. The other crates read it in two ways: as 32-bit words, low byte first, and as parts (runs of
-- bytes).
-- Document 01 leaves the byte layout to the builder. These two definitions are what docs/LAYOUT.md is written in.
use Rattle.std.specs.Prelude.{List, ℕ, ◌+◌, ◌*◌, get_or, take, drop}

-- the n bytes from byte a on; fewer if the memory ends before that
unfoldable pub part : List ℕ → ℕ → ℕ → List ℕ
part s a n = take n (drop a s)

-- word i: the number in bytes 4 i to 4 i + 3; a byte past the end counts as 0
unfoldable pub word : List ℕ → ℕ → ℕ
word s i = get_or s (4 * i) 0 + 256 * (get_or s (4 * i + 1) 0 + 256 * (get_or s (4 * i + 2) 0 + 256 * get_or s (4 * i + 3) 0))
