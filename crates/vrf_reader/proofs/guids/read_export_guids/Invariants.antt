-- `read_run` reads objects in payloads here.
use Rattle.vrf_model.specs.Runs.{guid_entry}
use Rattle.vrf_reader.proofs.guids.read_export_guids.Given as goal

abbrev pub ghost-read_run : goal.ghost-read_run
ghost-read_run a = guid_entry
