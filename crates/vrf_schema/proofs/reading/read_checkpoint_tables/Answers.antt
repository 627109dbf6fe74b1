-- `vrf_schema::reading::read_checkpoint_tables` satisfies its contract.
use Rattle.std.proofs.Common.{arith, refl}
use Rattle.std.proofs.lemmas.Result.{err_from_is_err_and}
use Rattle.vrf_model.specs.Block.{by_table, block}
use Rattle.vrf_model.specs.Calls.{block_counts, read_window, run}
use Rattle.vrf_schema.proofs.Laws.Reading.{window-good, window-refused, block_read}
use Rattle.vrf_schema.proofs.reading.read_checkpoint_tables.Goals as goal

pub returns-in_err-reader : goal.returns-in_err-reader
unfolding run read_window
returns-in_err-reader c =
    let p = err_from_is_err_and c.from_residual.result c.from_residual.ensures.1 in
    rw (p.1, p.2) (window-refused (λ n p. block_counts n) (block by_table) _ refl c.slice_known-1.given _ c.in_err-reader.ensures)

pub read_checkpoint_tables-requires : goal.read_checkpoint_tables-requires
read_checkpoint_tables-requires c = (window-good _ c.in_ok-reader.ensures, omega arith)

pub returns : goal.returns
unfolding run read_window
returns c = block_read _ refl c.slice_known-1.given c.in_ok-reader.reader c.read_checkpoint_tables.new.reader c.in_ok-reader.ensures c.read_checkpoint_tables.result c.read_checkpoint_tables.ensures.reads
