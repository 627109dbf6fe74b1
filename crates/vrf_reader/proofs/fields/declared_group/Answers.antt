-- `vrf_reader::fields::declared_group` satisfies its contract: path, slots and adding, in sequence.
use Rattle.vrf_text.specs.Text.{fstring}
use Rattle.vrf_model.specs.Runs.{declared_group}
use Rattle.vrf_model.proofs.Laws.Readings.{fstring-reads}
use Rattle.vrf_reader.proofs.Laws.Simulates.{read-stops, passed-on}
use Rattle.vrf_reader.proofs.Laws.Texts.{scratch-text}
use Rattle.vrf_reader.proofs.Laws.Fields.{no-slots, too_many, adding-refused, group-added}
use Rattle.vrf_reader.proofs.fields.declared_group.Goals as goal

pub returns-in_err-n : goal.returns-in_err-n
unfolding declared_group
returns-in_err-n c =
    passed-on _ _ _ c.from_residual.ensures.1 (read-stops fstring _ c.requires.0 _ c.in_err-n.ensures.reads)

pub returns-in_err-slots : goal.returns-in_err-slots
returns-in_err-slots c =
    passed-on _ _ _ c.from_residual-in_err-slots.ensures.1 (no-slots _ c.requires.0 c.in_ok-n.ensures.reads _ c.in_err-slots.ensures.0)

pub returns-then-slots-gt-MAX_SLOTS : goal.returns-then-slots-gt-MAX_SLOTS
returns-then-slots-gt-MAX_SLOTS c =
    too_many _ c.requires.0 c.in_ok-n.ensures.reads c.in_ok-slots.ensures c.if-slots-gt-MAX_SLOTS.true

pub add_export_group-requires : goal.add_export_group-requires
add_export_group-requires c = (c.requires.0, scratch-text fstring-reads c.in_ok-n.ensures.reads, c.if-slots-gt-MAX_SLOTS.false)

pub returns-in_err-add_export_group : goal.returns-in_err-add_export_group
returns-in_err-add_export_group c =
    passed-on _ _ _ c.from_residual-in_err-add_export_group.ensures.1 (adding-refused _ c.requires.0 c.in_ok-n.ensures.reads c.in_ok-slots.ensures c.if-slots-gt-MAX_SLOTS.false c.in_err-add_export_group.ensures)

pub returns : goal.returns
returns c =
    group-added _ c.requires.0 c.in_ok-n.ensures.reads c.in_ok-slots.ensures c.if-slots-gt-MAX_SLOTS.false c.in_ok-add_export_group.ensures
