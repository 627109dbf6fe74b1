-- `vrf_reader::fields::export_entry` satisfies its contract: index, flag, group and field, in sequence.
use Rattle.std.specs.Prelude.{Ok, Err}
use Rattle.vrf_bitio.specs.Number.{packed}
use Rattle.vrf_model.specs.Runs.{export_entry}
use Rattle.vrf_reader.proofs.Laws.Simulates.{read-stops, passed-on}
use Rattle.vrf_reader.proofs.Laws.Fields.{no_flag, group-refused, group-then}
use Rattle.vrf_reader.proofs.fields.export_entry.Goals as goal

pub returns-in_err-index-clause-reads : goal.returns-in_err-index-clause-reads
unfolding export_entry
returns-in_err-index-clause-reads c =
    passed-on _ _ _ c.from_residual.ensures.1 (read-stops packed _ c.requires.0 _ c.in_err-index.ensures.0)

pub returns-in_err-flag-clause-reads : goal.returns-in_err-flag-clause-reads
returns-in_err-flag-clause-reads c =
    passed-on _ _ _ c.from_residual-in_err-flag.ensures.1 (no_flag c.requires.0 c.in_ok-index.ensures _ c.in_err-flag.ensures.0)

pub returns-in_err-group_of-clause-reads : goal.returns-in_err-group_of-clause-reads
returns-in_err-group_of-clause-reads c =
    passed-on _ _ _ c.from_residual-in_err-group_of.ensures.1 (group-refused c.requires.0 c.in_ok-index.ensures c.in_ok-flag.ensures _ c.in_err-group_of.ensures)

pub returns-in_err-field_of-clause-reads : goal.returns-in_err-field_of-clause-reads
returns-in_err-field_of-clause-reads c =
    passed-on _ _ _ c.from_residual-in_err-field_of.ensures.1
    (group-then c.requires.0 c.in_ok-index.ensures c.in_ok-flag.ensures c.in_ok-group_of.ensures c.args.reader.now _ (Err _) c.in_err-field_of.ensures)

pub returns-clause-reads : goal.returns-clause-reads
returns-clause-reads c =
    group-then c.requires.0 c.in_ok-index.ensures c.in_ok-flag.ensures c.in_ok-group_of.ensures _ _ (Ok _) c.in_ok-field_of.ensures
