-- `vrf_reader::objects::record_object` satisfies its contract: the path, the checksum, then the record.
use Rattle.vrf_text.specs.Text.{fstring}
use Rattle.vrf_model.proofs.Laws.Readings.{fstring-reads}
use Rattle.vrf_reader.specs.Inner.Objects.{recorded}
use Rattle.vrf_reader.proofs.Laws.Simulates.{read-stops, passed-on}
use Rattle.vrf_reader.proofs.Laws.Texts.{scratch-text}
use Rattle.vrf_reader.proofs.Laws.Objects.{record-sumless, record-set, record-refused}
use Rattle.vrf_reader.proofs.objects.record_object.Goals as goal

pub returns-in_err-n : goal.returns-in_err-n
unfolding recorded
returns-in_err-n c =
    passed-on _ _ _ c.from_residual.ensures.1 (read-stops fstring _ c.requires.0 _ c.in_err-n.ensures.reads)

pub returns-in_err-skip_checksum : goal.returns-in_err-skip_checksum
returns-in_err-skip_checksum c =
    passed-on _ _ _ c.from_residual-in_err-skip_checksum.ensures.1 (record-sumless _ _ _ c.requires.0 c.in_ok-n.ensures.reads _ c.in_err-skip_checksum.ensures)

pub set_net_guid_path-requires : goal.set_net_guid_path-requires
set_net_guid_path-requires c = (c.requires.0, scratch-text fstring-reads c.in_ok-n.ensures.reads)

pub returns-in_err-set_net_guid_path : goal.returns-in_err-set_net_guid_path
returns-in_err-set_net_guid_path c =
    passed-on _ _ _ c.from_residual-in_err-set_net_guid_path.ensures.1 (record-refused _ _ _ c.requires.0 c.in_ok-n.ensures.reads c.in_ok-skip_checksum.ensures c.in_err-set_net_guid_path.ensures)

pub returns : goal.returns
returns c = record-set _ _ _ c.requires.0 c.in_ok-n.ensures.reads c.in_ok-skip_checksum.ensures c.in_ok-set_net_guid_path.ensures
