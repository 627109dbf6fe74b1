-- `vrf_schema::lookups::get_counters` satisfies its contract.
use Rattle.std.proofs.Common.{arith}
use Rattle.std.proofs.lemmas.Result.{err_from_is_err_and}
use Rattle.vrf_schema.proofs.Laws.Checked.{admitted-good}
use Rattle.vrf_schema.proofs.Laws.Counters.{counters-refused, counters-read}
use Rattle.vrf_schema.proofs.lookups.get_counters.Goals as goal

pub returns-in_err-check_book : goal.returns-in_err-check_book
returns-in_err-check_book c = let p = err_from_is_err_and c.from_residual.result c.from_residual.ensures.1 in rw (p.1, p.2) (counters-refused _ c.in_err-check_book.ensures)

pub read_counters-requires : goal.read_counters-requires
read_counters-requires c = omega (arith, (admitted-good c.in_ok-check_book.ensures).enough)

pub returns : goal.returns
returns c = search (counters-read, c.in_ok-check_book.ensures, c.read_counters.ensures)
