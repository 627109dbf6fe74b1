-- `vrf_checkpoint::guids::read_guids` satisfies its contract: the loop's invariant is `EntriesRead`.
use Rattle.std.proofs.Common.{arith}
use Rattle.vrf_checkpoint.proofs.Laws.Ends.{err-passed}
use Rattle.vrf_checkpoint.proofs.Laws.Guids.{entries_none, entries-counting, entries-more, entries-refused, entries-all}
use Rattle.vrf_checkpoint.proofs.guids.read_guids.Goals as goal

pub loop-entry-init : goal.loop-entry-init
loop-entry-init c = let h = c.default-t.ensures in entries_none _ _ _ c.requires.0 h.0 h.1.0 h.1.1

pub read_guid-requires : goal.read_guid-requires
read_guid-requires c = entries-counting c.loop-entry.invariant (omega (arith, c.requires.1)) c.requires.2 c.loop-entry-test.true

pub returns-in_err-t-clause-reads : goal.returns-in_err-t-clause-reads
returns-in_err-t-clause-reads c =
    let i = c.loop-entry.invariant in
    rw (err-passed _ _ c.from_residual.ensures.1) (entries-refused i c.loop-entry-test.true _ (c.in_err-t.ensures i.table i.represents))

pub loop-entry-preserved : goal.loop-entry-preserved
loop-entry-preserved c =
    let i = c.loop-entry.invariant in
    entries-more i c.loop-entry-test.true (c.in_ok-t.ensures i.table i.represents)

pub returns-clause-reads : goal.returns-clause-reads
returns-clause-reads c = entries-all c.loop-entry.invariant c.loop-entry-test.false
