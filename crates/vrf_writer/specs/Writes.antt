-- The contract of the writer for a well-formed book (document 01, Blocks): the answer, and the buffer with the block at its front. If the
-- writer is refused, the buffer stays as it was.
use Rattle.std.specs.Prelude.{◌≡◌, ℕ, List, length, Result, Ok, Err}
use Rattle.vrf_bitio.specs.Pasted.{pasted}
use Rattle.vrf_bitio.specs.declared.Refusal.{Refusal}
use Rattle.vrf_model.specs.Book.{Content}
use Rattle.vrf_model.specs.Writer.{encode_book, write}
use Rattle.vrf_model.specs.Answers.{wrote_of}

abbrev pub leaves : Content → List ℕ → Result ℕ Refusal → List ℕ
leaves c before (Ok n) = pasted before 0 (encode_book c)
leaves c before (Err r) = before

pub record WritesBook (c : Content) (before after : List ℕ) (r : Result ℕ Refusal) : Type 0 where
  pub answer : wrote_of r ≡ write (length before) c
  pub bytes : after ≡ leaves c before r
