-- What `put_key` and `put_text` write into a row.
use Rattle.std.specs.Prelude.{ℕ, ◌+◌, ◌*◌, ◌/◌, ◌%◌, ◌^◌, List}
use Rattle.vrf_words.specs.Inner.Words.{set_word}

-- the rows r with a new text place, text length and number in row e
unfoldable pub set_text : List ℕ → ℕ → ℕ → ℕ → ℕ → List ℕ
set_text r e a n i = set_word (set_word (set_word r (6 * e + 3) a) (6 * e + 4) n) (6 * e + 5) i

-- the rows r with a new key and link in row e
unfoldable pub set_key : List ℕ → ℕ → ℕ → ℕ → List ℕ
set_key r e k l = set_word (set_word (set_word r (6 * e) (k % 2 ^ 32)) (6 * e + 1) (k / 2 ^ 32)) (6 * e + 2) l
