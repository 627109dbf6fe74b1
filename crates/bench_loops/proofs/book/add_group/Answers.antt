use Rattle.bench_loops.proofs.Steps.{step-good}
use Rattle.bench_loops.proofs.book.add_group.Goals as goal

pub returns : goal.returns
returns c = step-good _ c.add_export_group.result c.requires.0 c.add_export_group.ensures
