-- `vrf_reader::runs::read_run` satisfies its contract: the count, then the entries.
use Rattle.std.proofs.Common.{arith}
use Rattle.vrf_model.specs.Names.{number}
use Rattle.vrf_model.specs.Runs.{run_of}
use Rattle.vrf_reader.proofs.Laws.Simulates.{window-kept, gave-window, window-then, read-stops, passed-on}
use Rattle.vrf_reader.proofs.Laws.Times.{none_read, one-more, one-refused, all_read, run-refused, run-read}
use Rattle.vrf_reader.proofs.runs.read_run.Goals as goal

pub returns-in_err-n-clause-reads : goal.returns-in_err-n-clause-reads
unfolding run_of
returns-in_err-n-clause-reads g c =
    passed-on _ _ _ c.from_residual.ensures.1 (read-stops number _ c.requires.1.0 _ c.in_err-n.ensures.0)

pub loop-init : goal.loop-init
loop-init g c = none_read c.requires.1.0

pub returns-in_err-read_entry-clause-reads : goal.returns-in_err-read_entry-clause-reads
returns-in_err-read_entry-clause-reads g c =
    let left = c.loop.invariant in
    let window = window-then (gave-window c.in_ok-n.ensures) (window-kept left.simulates) in
    let step = c.requires.1.1.1.gives _ _ _ _ _ (record { window = window; good = left.simulates.good; wide = omega arith }) c.in_err-read_entry.ensures in
    passed-on _ _ _ c.from_residual-in_err-read_entry.ensures.1 (run-refused _ c.requires.1.0 c.in_ok-n.ensures _ (one-refused left c.loop-test.true _ step))

pub loop-preserved : goal.loop-preserved
loop-preserved g c =
    let left = c.loop.invariant in
    let window = window-then (gave-window c.in_ok-n.ensures) (window-kept left.simulates) in
    let step = c.requires.1.1.1.gives _ _ _ _ _ (record { window = window; good = left.simulates.good; wide = omega arith }) c.in_ok-read_entry.ensures in
    one-more left c.loop-test.true step

pub returns-clause-reads : goal.returns-clause-reads
returns-clause-reads g c = run-read _ c.requires.1.0 c.in_ok-n.ensures (all_read c.loop.invariant c.loop-test.false)
