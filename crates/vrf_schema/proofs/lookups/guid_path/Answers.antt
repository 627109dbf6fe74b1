-- `vrf_schema::lookups::guid_path` satisfies its contract.
use Rattle.std.proofs.lemmas.Result.{err_from_is_err_and}
use Rattle.vrf_model.specs.Calls.{if_text_accepted, look_groups, look_guids, look}
use Rattle.vrf_schema.proofs.Laws.Checked.{call-refused, admitted-good, looked}
use Rattle.vrf_schema.proofs.lookups.guid_path.Goals as goal

pub returns-in_err-check_book : goal.returns-in_err-check_book
returns-in_err-check_book c = let p = err_from_is_err_and c.from_residual.result c.from_residual.ensures.1 in rw (p.1, p.2) (call-refused _ c.in_err-check_book.ensures)

pub guid_path-requires : goal.guid_path-requires
guid_path-requires c = admitted-good c.in_ok-check_book.ensures

pub returns : goal.returns
unfolding if_text_accepted look_groups look_guids look
returns c = search (looked, c.in_ok-check_book.ensures, c.guid_path.ensures)
