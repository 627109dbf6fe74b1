-- `vrf_reader::guids::read_export_guids` satisfies its contract: a run of objects in payloads.
use Rattle.vrf_model.specs.Runs.{guid_run}
use Rattle.vrf_reader.proofs.guids.read_export_guids.Goals as goal

pub returns-clause-reads : goal.returns-clause-reads
unfolding guid_run
returns-clause-reads c = c.read_run.ensures.reads
