-- `vrf_schema::calls::set_net_guid_path` satisfies its contract.
use Rattle.std.proofs.Common.{refl}
use Rattle.std.proofs.lemmas.Result.{err_from_is_err_and}
use Rattle.vrf_model.specs.Calls.{acted, if_text_accepted, run}
use Rattle.vrf_schema.proofs.Laws.Checked.{step-refused, admitted-good, admitted-text, acted-by}
use Rattle.vrf_schema.proofs.calls.set_net_guid_path.Goals as goal

pub returns-in_err-check_book_text : goal.returns-in_err-check_book_text
unfolding run if_text_accepted
returns-in_err-check_book_text c =
    let p = err_from_is_err_and c.from_residual.result c.from_residual.ensures.1 in
    rw (p.1, p.2) (step-refused _ (λ u. acted) _ c.slice_known-1.given c.in_err-check_book_text.ensures refl)

pub set_net_guid_path-requires : goal.set_net_guid_path-requires
set_net_guid_path-requires c = (admitted-good c.in_ok-check_book_text.ensures, admitted-text _ c.in_ok-check_book_text.ensures)

pub returns : goal.returns
unfolding run if_text_accepted
returns c = acted-by c.slice_known-1.given c.in_ok-check_book_text.ensures _ _ refl c.set_net_guid_path.result c.set_net_guid_path.ensures
