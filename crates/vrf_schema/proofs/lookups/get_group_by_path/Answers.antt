-- `vrf_schema::lookups::get_group_by_path` satisfies its contract.
use Rattle.std.proofs.Common.{arith, refl}
use Rattle.std.proofs.lemmas.Result.{err_from_is_err_and}
use Rattle.vrf_model.specs.Calls.{if_text_accepted, look_groups, look}
use Rattle.vrf_schema.proofs.Laws.Checked.{look-refused, admitted-good, admitted-text, found-entry, looked}
use Rattle.vrf_schema.proofs.lookups.get_group_by_path.Goals as goal

pub returns-in_err-check_book_text : goal.returns-in_err-check_book_text
unfolding if_text_accepted look_groups look
returns-in_err-check_book_text c =
    let p = err_from_is_err_and c.from_residual.result c.from_residual.ensures.1 in
    rw (p.1, p.2) (look-refused _ _ c.shared_slice_known-1.given c.in_err-check_book_text.ensures refl)

pub find_path_place-requires : goal.find_path_place-requires
find_path_place-requires c = (admitted-good c.in_ok-check_book_text.ensures, omega (arith, (admitted-text _ c.in_ok-check_book_text.ensures).short))

pub returns : goal.returns
unfolding if_text_accepted look_groups look
returns c = rw (found-entry c.find_path_place.result) (search (looked, c.in_ok-check_book_text.ensures, c.find_path_place.ensures))
