-- The last three counts follow the first four.
use Rattle.vrf_model.specs.Answers.{counts_of}
use Rattle.vrf_tally.proofs.Laws.Printed.{counts-put}
use Rattle.vrf_tally.proofs.put_counts.Goals as goal

pub returns : goal.returns
returns c = counts-put (counts_of c.args.t) c.put_held-held.ensures.1 c.put_paths.ensures
