use Rattle.bench_loops.proofs.Steps.{step-good}
use Rattle.bench_loops.proofs.book.set_field.Goals as goal

pub returns : goal.returns
returns c = step-good _ c.set_field_on_group.result c.requires.0 c.set_field_on_group.ensures
