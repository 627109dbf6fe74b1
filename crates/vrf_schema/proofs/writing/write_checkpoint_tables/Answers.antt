-- `vrf_schema::writing::write_checkpoint_tables` satisfies its contract.
use Rattle.std.proofs.lemmas.Result.{err_from_is_err_and}
use Rattle.vrf_schema.proofs.Laws.Checked.{admitted-good}
use Rattle.vrf_schema.proofs.Laws.Write.{not-written, written-by}
use Rattle.vrf_schema.proofs.writing.write_checkpoint_tables.Goals as goal

pub returns-in_err-check_book : goal.returns-in_err-check_book
returns-in_err-check_book c = let p = err_from_is_err_and c.from_residual.result c.from_residual.ensures.1 in rw (p.1, p.2) (not-written _ c.in_err-check_book.ensures)

pub write_checkpoint_tables-requires : goal.write_checkpoint_tables-requires
write_checkpoint_tables-requires c = admitted-good c.in_ok-check_book.ensures

pub returns : goal.returns
returns c = written-by c.in_ok-check_book.ensures c.write_checkpoint_tables.ensures
