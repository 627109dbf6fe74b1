-- `vrf_schema::checked::check_book_text` satisfies its contract.
use Rattle.std.proofs.lemmas.Result.{err_from_is_err_and}
use Rattle.vrf_schema.proofs.Laws.Checked.{book-refused, book-accepted}
use Rattle.vrf_schema.proofs.checked.check_book_text.Goals as goal

pub returns-in_err-check_book : goal.returns-in_err-check_book
returns-in_err-check_book c = let p = err_from_is_err_and c.from_residual.result c.from_residual.ensures.1 in rw (p.1, p.2) (book-refused _ c.in_err-check_book.ensures)

pub returns : goal.returns
returns c = book-accepted c.check_text.result c.in_ok-check_book.ensures c.check_text.ensures
