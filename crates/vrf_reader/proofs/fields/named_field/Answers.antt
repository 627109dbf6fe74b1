-- `vrf_reader::fields::named_field` satisfies its contract: checksum, name and setting, in sequence.
use Rattle.vrf_bitio.specs.Number.{word32}
use Rattle.vrf_model.proofs.Laws.Names.{fname-reads}
use Rattle.vrf_reader.proofs.Laws.Simulates.{read-stops, passed-on}
use Rattle.vrf_reader.proofs.Laws.Texts.{scratch-text}
use Rattle.vrf_reader.proofs.Laws.Fields.{no_name, field-refused, field-set}
use Rattle.vrf_reader.proofs.fields.named_field.Goals as goal

pub returns-in_err-checksum-clause-reads : goal.returns-in_err-checksum-clause-reads
returns-in_err-checksum-clause-reads c =
    passed-on _ _ _ c.from_residual.ensures.1 (read-stops word32 _ c.requires.0 _ c.in_err-checksum.ensures.0)

pub returns-in_err-n-clause-reads : goal.returns-in_err-n-clause-reads
returns-in_err-n-clause-reads c =
    passed-on _ _ _ c.from_residual-in_err-n.ensures.1 (no_name _ _ c.requires.0 c.in_ok-checksum.ensures _ c.in_err-n.ensures.reads)

pub set_field_on_group-requires : goal.set_field_on_group-requires
set_field_on_group-requires c = (c.requires.0, scratch-text fname-reads c.in_ok-n.ensures.reads)

pub returns-in_err-set_field_on_group-clause-reads : goal.returns-in_err-set_field_on_group-clause-reads
returns-in_err-set_field_on_group-clause-reads c =
    passed-on _ _ _ c.from_residual-in_err-set_field_on_group.ensures.1 (field-refused _ _ c.requires.0 c.in_ok-checksum.ensures c.in_ok-n.ensures.reads c.in_err-set_field_on_group.ensures)

pub returns-clause-reads : goal.returns-clause-reads
returns-clause-reads c = field-set _ _ c.requires.0 c.in_ok-checksum.ensures c.in_ok-n.ensures.reads c.in_ok-set_field_on_group.ensures
