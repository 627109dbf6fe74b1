-- `vrf_reader::fields::read_net_field_exports` satisfies its contract: a run of exports.
use Rattle.vrf_model.specs.Runs.{fields_run}
use Rattle.vrf_reader.proofs.fields.read_net_field_exports.Goals as goal

pub returns-clause-reads : goal.returns-clause-reads
unfolding fields_run
returns-clause-reads c = c.read_run.ensures.reads
