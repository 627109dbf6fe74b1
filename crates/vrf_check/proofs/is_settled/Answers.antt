-- One case for each claim.
use Rattle.vrf_store.specs.Check.{is_settled}
use Rattle.vrf_check.proofs.is_settled.Goals as goal

pub returns-in-Absent : goal.returns-in-Absent
unfolding is_settled
returns-in-Absent c = rw c.in-Absent.is

pub returns-in-Ambiguous : goal.returns-in-Ambiguous
unfolding is_settled
returns-in-Ambiguous c = rw c.in-Ambiguous.is

pub returns-in-Only : goal.returns-in-Only
unfolding is_settled
returns-in-Only c = rw c.in-Only.is
