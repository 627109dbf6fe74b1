-- `read_run` reads exports here.
use Rattle.vrf_model.specs.Runs.{export_entry}
use Rattle.vrf_reader.proofs.fields.read_net_field_exports.Given as goal

abbrev pub ghost-read_run : goal.ghost-read_run
ghost-read_run a = export_entry
