-- The four books of a run (`src/books.rt`), which are one after another at the front of its memory.
use Rattle.std.specs.Prelude.{ℕ, ◌+◌}
use Rattle.vrf_script_calls.specs.declared.books.Books.{Books}

-- the number of bytes that the four books have together
abbrev pub total : Books → ℕ
total books = books.a + books.b + books.c + books.d
