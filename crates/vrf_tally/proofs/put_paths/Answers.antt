-- The three lines follow one another.
use Rattle.vrf_bitio.specs.Ascii.{ascii}
use Rattle.vrf_model.specs.Answers.{counts_of}
use Rattle.vrf_tally.proofs.Laws.Printed.{paths-put}
use Rattle.vrf_tally.proofs.put_paths.Goals as goal

pub returns : goal.returns
unfolding ascii
returns c = paths-put (counts_of c.args.t) c.put_line-indexed.ensures.1 c.put_line-literals.ensures.1 c.put_line.ensures.1
