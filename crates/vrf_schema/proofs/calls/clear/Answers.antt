-- `vrf_schema::calls::clear` satisfies its contract.
use Rattle.std.proofs.Common.{refl}
use Rattle.std.proofs.lemmas.Result.{err_from_is_err_and}
use Rattle.vrf_model.specs.Calls.{if_text_accepted, run}
use Rattle.vrf_schema.proofs.Laws.Checked.{call-refused, admitted-good, acted-by}
use Rattle.vrf_schema.proofs.calls.clear.Goals as goal

pub returns-in_err-check_book : goal.returns-in_err-check_book
returns-in_err-check_book c = let p = err_from_is_err_and c.from_residual.result c.from_residual.ensures.1 in rw (p.1, p.2) (call-refused _ c.in_err-check_book.ensures)

pub clear-requires : goal.clear-requires
clear-requires c = admitted-good c.in_ok-check_book.ensures

pub returns : goal.returns
unfolding run if_text_accepted
returns c = acted-by c.slice_known-1.given c.in_ok-check_book.ensures _ _ refl c.clear.result c.clear.ensures
