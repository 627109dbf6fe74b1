-- The four lines follow one another.
use Rattle.std.proofs.Common.{arith}
use Rattle.vrf_bitio.specs.Ascii.{ascii}
use Rattle.vrf_model.specs.Answers.{counts_of}
use Rattle.vrf_tally.proofs.Laws.Printed.{held-put}
use Rattle.vrf_tally.proofs.put_held.Goals as goal

pub returns : goal.returns
unfolding ascii
returns c =
    (omega arith, held-put (counts_of c.args.t) c.put_line-guids.ensures.1 c.put_line-groups.ensures.1 c.put_line-fields.ensures.1 c.put_line.ensures.1)
