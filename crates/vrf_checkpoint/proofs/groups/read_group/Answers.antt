-- `vrf_checkpoint::groups::read_group` satisfies its contract: path, index and slot count, then adding and slots.
use Rattle.std.proofs.Common.{arith}
use Rattle.vrf_bitio.specs.declared.Reason.TheVariants.{CountOverflow}
use Rattle.vrf_model.proofs.Laws.Readings.{fstring-reads}
use Rattle.vrf_reader.proofs.Laws.Texts.{scratch-text}
use Rattle.vrf_checkpoint.proofs.Laws.Ends.{err-passed}
use Rattle.vrf_checkpoint.proofs.Laws.Groups.{no_index, no-count, too_many, not-added, added, no-path, group-refused, group-then}
use Rattle.vrf_checkpoint.proofs.groups.read_group.Goals as goal

pub returns-in_err-n-clause-reads : goal.returns-in_err-n-clause-reads
returns-in_err-n-clause-reads c = rw (err-passed _ _ c.from_residual.ensures.1) (no-path c.requires.0 _ c.in_err-n.ensures.reads)

pub returns-in_err-index-clause-reads : goal.returns-in_err-index-clause-reads
returns-in_err-index-clause-reads c =
    let good = c.requires.0 in
    rw (err-passed _ _ c.from_residual-in_err-index.ensures.1)
    (group-refused good c.in_ok-n.ensures.reads _ (no_index _ good _ c.in_err-index.ensures.0))

pub returns-in_err-slots-clause-reads : goal.returns-in_err-slots-clause-reads
returns-in_err-slots-clause-reads c =
    let good = c.requires.0 in
    rw (err-passed _ _ c.from_residual-in_err-slots.ensures.1)
    (group-refused good c.in_ok-n.ensures.reads _ (no-count _ good c.in_ok-index.ensures _ c.in_err-slots.ensures.0))

pub returns-then-slots-gt65536-clause-reads : goal.returns-then-slots-gt65536-clause-reads
returns-then-slots-gt65536-clause-reads c =
    let good = c.requires.0 in
    group-refused good c.in_ok-n.ensures.reads (record { reason = CountOverflow; a = 3; b = c.in_ok-slots.slots })
    (too_many _ good c.in_ok-index.ensures c.in_ok-slots.ensures (omega arith))

pub add_first-requires : goal.add_first-requires
add_first-requires c = (c.requires.0, scratch-text fstring-reads c.in_ok-n.ensures.reads, omega arith)

pub returns-in_err-add_first-clause-reads : goal.returns-in_err-add_first-clause-reads
returns-in_err-add_first-clause-reads c =
    let good = c.requires.0 in
    rw (err-passed _ _ c.from_residual-in_err-add_first.ensures.1)
    (group-refused good c.in_ok-n.ensures.reads _
    (not-added _ good c.in_ok-index.ensures c.in_ok-slots.ensures (omega arith) _ c.in_err-add_first.ensures))

pub returns-clause-reads : goal.returns-clause-reads
returns-clause-reads c =
    let good = c.requires.0 in
    let slots = c.read_slots in
    let declared = added _ good c.in_ok-index.ensures c.in_ok-slots.ensures (omega arith) c.in_ok-add_first.ensures in
    (group-then good c.in_ok-n.ensures.reads _ _ declared slots.new.reader slots.new.m slots.result (slots.ensures.reads, slots.ensures.few)).0
