-- `vrf_schema::reading::read_net_field_exports` satisfies its contract.
use Rattle.std.specs.Prelude.{Ok, Err}
use Rattle.std.proofs.Common.{arith, refl}
use Rattle.std.proofs.lemmas.Result.{err_from_is_err_and}
use Rattle.vrf_model.specs.Runs.{fields_run}
use Rattle.vrf_model.specs.Calls.{ran, read_window, run}
use Rattle.vrf_schema.proofs.Laws.Reading.{window-good, window-refused, run-read}
use Rattle.vrf_schema.proofs.reading.read_net_field_exports.Goals as goal

pub returns-in_err-reader : goal.returns-in_err-reader
unfolding run read_window
returns-in_err-reader c =
    let p = err_from_is_err_and c.from_residual.result c.from_residual.ensures.1 in
    rw (p.1, p.2) (window-refused ran fields_run _ refl c.slice_known-1.given _ c.in_err-reader.ensures)

pub read_net_field_exports-requires : goal.read_net_field_exports-requires
read_net_field_exports-requires c = (window-good _ c.in_ok-reader.ensures, omega arith)

pub returns-in_err-count : goal.returns-in_err-count
unfolding run read_window
returns-in_err-count c =
    let p = err_from_is_err_and c.from_residual-in_err-count.result c.from_residual-in_err-count.ensures.1 in
    rw (p.1, p.2) (run-read fields_run _ refl c.slice_known-1.given c.in_ok-reader.reader c.read_net_field_exports.new.reader c.in_ok-reader.ensures (Err _) c.in_err-count.ensures.reads)

pub returns : goal.returns
unfolding run read_window
returns c = run-read fields_run _ refl c.slice_known-1.given c.in_ok-reader.reader c.read_net_field_exports.new.reader c.in_ok-reader.ensures (Ok _) c.in_ok-count.ensures.reads
