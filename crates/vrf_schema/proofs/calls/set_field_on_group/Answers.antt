-- `vrf_schema::calls::set_field_on_group` satisfies its contract.
use Rattle.std.proofs.Common.{refl}
use Rattle.std.proofs.lemmas.Result.{err_from_is_err_and}
use Rattle.vrf_model.specs.Calls.{field_placed, if_text_accepted, run}
use Rattle.vrf_schema.proofs.Laws.Checked.{step-refused, admitted-good, admitted-text, placed_by}
use Rattle.vrf_schema.proofs.calls.set_field_on_group.Goals as goal

pub returns-in_err-check_book_text : goal.returns-in_err-check_book_text
unfolding run if_text_accepted
returns-in_err-check_book_text c =
    let p = err_from_is_err_and c.from_residual.result c.from_residual.ensures.1 in
    rw (p.1, p.2) (step-refused _ field_placed _ c.slice_known-1.given c.in_err-check_book_text.ensures refl)

pub set_field_on_group-requires : goal.set_field_on_group-requires
set_field_on_group-requires c = (admitted-good c.in_ok-check_book_text.ensures, admitted-text _ c.in_ok-check_book_text.ensures)

pub returns : goal.returns
unfolding run if_text_accepted
returns c = placed_by c.slice_known-1.given c.in_ok-check_book_text.ensures _ _ refl c.set_field_on_group.result c.set_field_on_group.ensures
