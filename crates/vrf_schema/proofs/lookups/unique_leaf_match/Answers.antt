-- `vrf_schema::lookups::unique_leaf_match` satisfies its contract.
use Rattle.std.proofs.Common.{arith, refl}
use Rattle.std.proofs.lemmas.Result.{err_from_is_err_and}
use Rattle.vrf_model.specs.Calls.{if_text_accepted, look_groups, look}
use Rattle.vrf_schema.proofs.Laws.Checked.{look-refused, admitted-good, admitted-text, found-entry, looked}
use Rattle.vrf_schema.proofs.lookups.unique_leaf_match.Goals as goal

pub returns-in_err-check_book_text : goal.returns-in_err-check_book_text
unfolding if_text_accepted look_groups look
returns-in_err-check_book_text c =
    let p = err_from_is_err_and c.from_residual.result c.from_residual.ensures.1 in
    rw (p.1, p.2) (look-refused _ _ c.shared_slice_known-1.given c.in_err-check_book_text.ensures refl)

pub unique_leaf_match-requires : goal.unique_leaf_match-requires
unique_leaf_match-requires c = (admitted-good c.in_ok-check_book_text.ensures, omega (arith, (admitted-text _ c.in_ok-check_book_text.ensures).short))

pub returns : goal.returns
unfolding if_text_accepted look_groups look
returns c = rw (found-entry c.unique_leaf_match.result) (search (looked, c.in_ok-check_book_text.ensures, c.unique_leaf_match.ensures))
