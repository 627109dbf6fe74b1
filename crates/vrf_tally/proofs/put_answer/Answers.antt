-- `vrf_tally::put_answer` satisfies its contract.
use Rattle.vrf_tally.specs.Tally.{answer_lines}
use Rattle.vrf_tally.proofs.put_answer.Goals as goal

pub returns-in-Ok : goal.returns-in-Ok
unfolding answer_lines
returns-in-Ok c = rw c.in-Ok.is c.put_counts.ensures

pub returns-in-Err : goal.returns-in-Err
unfolding answer_lines
returns-in-Err c = rw c.in-Err.is c.put_refusal.ensures
