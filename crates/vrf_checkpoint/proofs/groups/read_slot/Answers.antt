-- `vrf_checkpoint::groups::read_slot` satisfies its contract: the slot byte, then the handle, which equals the slot, and the field.
use Rattle.std.specs.Prelude.{Ok, Err}
use Rattle.std.proofs.Common.{arith}
use Rattle.vrf_bitio.specs.declared.Reason.TheVariants.{HandleNotSlot}
use Rattle.vrf_bitio.specs.declared.Refusal.{Refusal}
use Rattle.vrf_checkpoint.proofs.Laws.Ends.{err-passed}
use Rattle.vrf_checkpoint.proofs.Laws.Groups.{no-handle, other-handle, field-refused, field-read, no_byte, slot-empty, slot-filled}
use Rattle.vrf_checkpoint.proofs.groups.read_slot.Goals as goal

pub returns-in_err-exported-clause-reads : goal.returns-in_err-exported-clause-reads
returns-in_err-exported-clause-reads c =
    rw (err-passed _ _ c.from_residual.ensures.1) (no_byte c.args.index c.args.slot c.requires.0 _ c.in_err-exported.ensures.0)

pub returns-then-exported-eq0-clause-reads : goal.returns-then-exported-eq0-clause-reads
returns-then-exported-eq0-clause-reads c = slot-empty _ _ c.requires.0 c.in_ok-exported.ensures (omega arith)

pub returns-in_err-handle-clause-reads : goal.returns-in_err-handle-clause-reads
returns-in_err-handle-clause-reads c =
    let good = c.requires.0 in
    let filled = slot-filled c.args.index c.args.slot good c.in_ok-exported.ensures (omega arith) in
    rw (err-passed _ _ c.from_residual-in_err-handle.ensures.1)
    (filled c.args.reader.now _ (Err _) (no-handle _ _ good _ c.in_err-handle.ensures.0, tt)).0

pub returns-then-handle-slot-clause-reads : goal.returns-then-handle-slot-clause-reads
returns-then-handle-slot-clause-reads c =
    let good = c.requires.0 in
    let filled = slot-filled c.args.index c.args.slot good c.in_ok-exported.ensures (omega arith) in
    let q : Refusal = record { reason = HandleNotSlot; a = c.args.slot; b = c.in_ok-handle.handle } in
    (filled c.args.reader.now _ (Err q) (other-handle _ _ good c.in_ok-handle.ensures (omega arith), tt)).0

pub returns-in_err-named_field-clause-reads : goal.returns-in_err-named_field-clause-reads
returns-in_err-named_field-clause-reads c =
    let good = c.requires.0 in
    let filled = slot-filled c.args.index c.args.slot good c.in_ok-exported.ensures (omega arith) in
    rw (err-passed _ _ c.from_residual-in_err-named_field.ensures.1)
    (filled c.args.reader.now _ (Err _)
    (field-refused _ _ good c.in_ok-handle.ensures (omega arith) _ c.in_err-named_field.ensures.reads, tt)).0

pub returns-clause-reads : goal.returns-clause-reads
returns-clause-reads c =
    let good = c.requires.0 in
    let filled = slot-filled c.args.index c.args.slot good c.in_ok-exported.ensures (omega arith) in
    (filled _ _ (Ok 1) (field-read _ _ good c.in_ok-handle.ensures (omega arith) c.in_ok-named_field.ensures.reads, omega arith)).0
