-- `vrf_schema::calls::add_export_group` satisfies its contract.
use Rattle.std.proofs.Common.{arith, refl}
use Rattle.std.proofs.lemmas.Result.{err_from_is_err_and}
use Rattle.vrf_model.specs.Calls.{at_place, if_text_accepted, run}
use Rattle.vrf_schema.proofs.Laws.Checked.{step-refused, admitted-good, admitted-text, too_many, added-directly}
use Rattle.vrf_schema.proofs.calls.add_export_group.Goals as goal

pub returns-in_err-check_book_text : goal.returns-in_err-check_book_text
unfolding run if_text_accepted
returns-in_err-check_book_text c =
    let p = err_from_is_err_and c.from_residual.result c.from_residual.ensures.1 in
    rw (p.1, p.2) (step-refused _ at_place _ c.slice_known-1.given c.in_err-check_book_text.ensures refl)

pub returns-then-slots-gt65536 : goal.returns-then-slots-gt65536
returns-then-slots-gt65536 c = too_many c.slice_known-1.given c.in_ok-check_book_text.ensures c.if-slots-gt65536.true

pub add_export_group-requires : goal.add_export_group-requires
add_export_group-requires c = (admitted-good c.in_ok-check_book_text.ensures, admitted-text _ c.in_ok-check_book_text.ensures, omega arith)

pub returns : goal.returns
returns c = added-directly c.slice_known-1.given c.in_ok-check_book_text.ensures c.if-slots-gt65536.false c.add_export_group.result c.add_export_group.ensures
