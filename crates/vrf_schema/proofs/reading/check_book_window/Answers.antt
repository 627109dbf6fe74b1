-- `vrf_schema::reading::check_book_window` satisfies its contract.
use Rattle.std.proofs.lemmas.Result.{err_from_is_err_and}
use Rattle.vrf_schema.proofs.Laws.Reading.{book-corrupt, book-passed}
use Rattle.vrf_schema.proofs.reading.check_book_window.Goals as goal

pub returns-in_err-check_book : goal.returns-in_err-check_book
returns-in_err-check_book c = let p = err_from_is_err_and c.from_residual.result c.from_residual.ensures.1 in rw (p.1, p.2) (book-corrupt _ c.in_err-check_book.ensures)

pub returns : goal.returns
returns c = book-passed c.in_ok-check_book.ensures c.window.result c.window.ensures
