-- `vrf_checkpoint::block::read_checkpoint_tables` satisfies its contract: the parts of a block, one after another.
use Rattle.std.specs.Prelude.{Ok, Err}
use Rattle.vrf_reader.proofs.Laws.Simulates.{stops}
use Rattle.vrf_checkpoint.proofs.Laws.Ends.{err-passed}
use Rattle.vrf_checkpoint.proofs.Laws.Block.{head-refused, zeros-stop, zeros-stop-2, zeros-read, head-not-zero, head-no-count, head_read}
use Rattle.vrf_checkpoint.proofs.Laws.Block.{rest-no-count, rest-no-groups, rest-no-end, rest_read, block-then, block-no-guids, block-guids}
use Rattle.vrf_checkpoint.proofs.block.read_checkpoint_tables.Goals as goal

pub returns-in_err-w-clause-reads : goal.returns-in_err-w-clause-reads
returns-in_err-w-clause-reads c =
    rw (err-passed _ _ c.from_residual.ensures.1) ((head-refused _ c.in_err-w.ensures.0).simulates _ c.requires.0)

pub returns-in_err-read_zero-clause-reads : goal.returns-in_err-read_zero-clause-reads
returns-in_err-read_zero-clause-reads c =
    rw (err-passed _ _ c.from_residual-in_err-read_zero.ensures.1)
    ((head-not-zero c.in_ok-w.ensures _ (zeros-stop _ c.in_err-read_zero.ensures)).simulates _ c.requires.0)

pub returns-in_err-read_zero-2-clause-reads : goal.returns-in_err-read_zero-2-clause-reads
returns-in_err-read_zero-2-clause-reads c =
    let zeros = zeros-stop-2 c.in_ok-read_zero.ensures _ c.in_err-read_zero-2.ensures in
    rw (err-passed _ _ c.from_residual-in_err-read_zero-2.ensures.1)
    ((head-not-zero c.in_ok-w.ensures _ zeros).simulates _ c.requires.0)

pub returns-in_err-read_zero-3-clause-reads : goal.returns-in_err-read_zero-3-clause-reads
returns-in_err-read_zero-3-clause-reads c =
    let zeros = zeros-read c.in_ok-read_zero.ensures c.in_ok-read_zero-2.ensures (Err _) c.in_err-read_zero-3.ensures in
    rw (err-passed _ _ c.from_residual-in_err-read_zero-3.ensures.1)
    ((head-not-zero c.in_ok-w.ensures _ zeros).simulates _ c.requires.0)

pub returns-in_err-guids-clause-reads : goal.returns-in_err-guids-clause-reads
returns-in_err-guids-clause-reads c =
    let zeros = zeros-read c.in_ok-read_zero.ensures c.in_ok-read_zero-2.ensures (Ok tt) c.in_ok-read_zero-3.ensures in
    rw (err-passed _ _ c.from_residual-in_err-guids.ensures.1)
    ((head-no-count c.in_ok-w.ensures zeros _ c.in_err-guids.ensures.reads).simulates _ c.requires.0)

pub returns-in_err-t-clause-reads : goal.returns-in_err-t-clause-reads
returns-in_err-t-clause-reads c =
    let zeros = zeros-read c.in_ok-read_zero.ensures c.in_ok-read_zero-2.ensures (Ok tt) c.in_ok-read_zero-3.ensures in
    let head = head_read c.in_ok-w.ensures zeros c.in_ok-guids.ensures.reads in
    rw (err-passed _ _ c.from_residual-in_err-t.ensures.1) (block-no-guids _ _ head c.requires.0 _ c.in_err-t.ensures.reads)

pub returns-in_err-groups-clause-reads : goal.returns-in_err-groups-clause-reads
returns-in_err-groups-clause-reads c =
    let zeros = zeros-read c.in_ok-read_zero.ensures c.in_ok-read_zero-2.ensures (Ok tt) c.in_ok-read_zero-3.ensures in
    let head = head_read c.in_ok-w.ensures zeros c.in_ok-guids.ensures.reads in
    let t = c.in_ok-t.ensures.reads.simulates in
    rw (err-passed _ _ c.from_residual-in_err-groups.ensures.1)
    (stops (block-guids _ _ head c.requires.0 _ t) _ (rest-no-count _ _ c.in_ok-t.ensures.reads.table t.good _ c.in_err-groups.ensures.reads))

pub returns-in_err-fields-clause-reads : goal.returns-in_err-fields-clause-reads
returns-in_err-fields-clause-reads c =
    let zeros = zeros-read c.in_ok-read_zero.ensures c.in_ok-read_zero-2.ensures (Ok tt) c.in_ok-read_zero-3.ensures in
    let head = head_read c.in_ok-w.ensures zeros c.in_ok-guids.ensures.reads in
    let t = c.in_ok-t.ensures.reads.simulates in
    rw (err-passed _ _ c.from_residual-in_err-fields.ensures.1)
    (stops (block-guids _ _ head c.requires.0 _ t) _
    (rest-no-groups _ _ c.in_ok-t.ensures.reads.table t.good c.in_ok-groups.ensures.reads _ c.in_err-fields.ensures.reads))

pub returns-in_err-frame-clause-reads : goal.returns-in_err-frame-clause-reads
returns-in_err-frame-clause-reads c =
    let zeros = zeros-read c.in_ok-read_zero.ensures c.in_ok-read_zero-2.ensures (Ok tt) c.in_ok-read_zero-3.ensures in
    let head = head_read c.in_ok-w.ensures zeros c.in_ok-guids.ensures.reads in
    let t = c.in_ok-t.ensures.reads.simulates in
    rw (err-passed _ _ c.from_residual-in_err-frame.ensures.1)
    (stops (block-guids _ _ head c.requires.0 _ t) _
    (rest-no-end _ _ c.in_ok-t.ensures.reads.table t.good c.in_ok-groups.ensures.reads _ c.in_ok-fields.ensures.reads _ c.in_err-frame.ensures))

pub returns-clause-reads : goal.returns-clause-reads
returns-clause-reads c =
    let zeros = zeros-read c.in_ok-read_zero.ensures c.in_ok-read_zero-2.ensures (Ok tt) c.in_ok-read_zero-3.ensures in
    let head = head_read c.in_ok-w.ensures zeros c.in_ok-guids.ensures.reads in
    let t = c.in_ok-t.ensures.reads.simulates in
    block-then (block-guids _ _ head c.requires.0 _ t) _ _ (Ok _)
    (rest_read _ _ _ t.good c.in_ok-groups.ensures.reads _ c.in_ok-fields.ensures.reads c.in_ok-frame.ensures c.in_ok-t.ensures.reads.represents)
