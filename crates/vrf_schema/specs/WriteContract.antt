-- The contract of the exported writer. If the memory fails the check, the call is refused with 2 and the buffer stays as it was. Otherwise
-- the answer and the buffer are document 01's. The book is borrowed only to be read, so writing changes no book.
use Rattle.std.specs.Prelude.{◌≡◌, true, false, List, ℕ, Result}
use Rattle.vrf_bitio.specs.declared.Refusal.{Refusal}
use Rattle.vrf_model.specs.Writer.{not_written}
use Rattle.vrf_model.specs.Answers.{wrote_of}
use Rattle.vrf_store.specs.Store.{book_of}
use Rattle.vrf_store.specs.Check.{check}
use Rattle.vrf_writer.specs.Writes.{WritesBook}

pub record Unwritten (before after : List ℕ) (r : Result ℕ Refusal) : Type 0 where
  pub answer : wrote_of r ≡ not_written 2 0 0
  pub kept : after ≡ before

pub record WriteContract (m before after : List ℕ) (r : Result ℕ Refusal) : Type 0 where
  pub corrupt : check m ≡ false → Unwritten before after r
  pub wrote : check m ≡ true → WritesBook (book_of m).content before after r
