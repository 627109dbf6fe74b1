use Rattle.bench_loops.proofs.blocks.runs_unchecked.Goals as goal

pub loop-preserved : goal.loop-preserved
loop-preserved c = (rw c.in-Ok.is at c.read_net_field_exports.ensures.reads).good
