-- `vrf_tally::put_refusal` satisfies its contract.
use Rattle.vrf_bitio.specs.Ascii.{ascii}
use Rattle.vrf_tally.proofs.Laws.Printed.{refusal-put}
use Rattle.vrf_tally.proofs.put_refusal.Goals as goal

pub returns : goal.returns
unfolding ascii
returns c =
    let r = c.args.r in
    refusal-put _ r.a r.b (rw c.number.ensures at c.put_line-number.ensures.1) c.put_line-a.ensures.1 c.put_line.ensures.1
