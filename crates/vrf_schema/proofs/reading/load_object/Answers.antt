-- `vrf_schema::reading::load_object` satisfies its contract.
use Rattle.std.specs.Prelude.{Ok, Err}
use Rattle.std.proofs.Common.{arith, refl}
use Rattle.std.proofs.lemmas.Result.{err_from_is_err_and}
use Rattle.vrf_model.specs.Runs.{object_at}
use Rattle.vrf_model.specs.Calls.{ran, read_window, run}
use Rattle.vrf_schema.proofs.Laws.Reading.{window-good, window-refused, run-read}
use Rattle.vrf_schema.proofs.reading.load_object.Goals as goal

pub returns-in_err-reader : goal.returns-in_err-reader
unfolding run read_window object_at
returns-in_err-reader c =
    let p = err_from_is_err_and c.from_residual.result c.from_residual.ensures.1 in
    rw (p.1, p.2) (window-refused ran (object_at c.args.depth c.args.exporting) _ refl c.slice_known-1.given _ c.in_err-reader.ensures)

pub load_object-requires : goal.load_object-requires
load_object-requires c = (window-good _ c.in_ok-reader.ensures, omega arith)

pub returns-in_err-guid : goal.returns-in_err-guid
unfolding run read_window object_at
returns-in_err-guid c =
    let p = err_from_is_err_and c.from_residual-in_err-guid.result c.from_residual-in_err-guid.ensures.1 in
    rw (p.1, p.2) (run-read (object_at c.args.depth c.args.exporting) _ refl c.slice_known-1.given c.in_ok-reader.reader c.load_object.new.reader c.in_ok-reader.ensures (Err _) (rw c.depth_left-left.ensures at c.in_err-guid.ensures.reads))

pub returns : goal.returns
unfolding run read_window object_at
returns c = run-read (object_at c.args.depth c.args.exporting) _ refl c.slice_known-1.given c.in_ok-reader.reader c.load_object.new.reader c.in_ok-reader.ensures (Ok _) (rw c.depth_left-left.ensures at c.in_ok-guid.ensures.reads)
