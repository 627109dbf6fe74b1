use Rattle.bench_loops.proofs.Steps.{step-good}
use Rattle.bench_loops.proofs.book.set_guid.Goals as goal

pub returns : goal.returns
returns c = step-good _ c.set_net_guid_path.result c.requires.0 c.set_net_guid_path.ensures
