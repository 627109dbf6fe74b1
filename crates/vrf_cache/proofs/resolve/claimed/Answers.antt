-- One case for each claim.
use Rattle.std.proofs.Common.{⊎_elim}
use Rattle.vrf_model.specs.Lookup.{claim_or_next}
use Rattle.vrf_cache.proofs.resolve.claimed.Goals as goal

pub returns-in-Only : goal.returns-in-Only
unfolding claim_or_next
returns-in-Only c = rw c.in-Only.is

pub returns-in-Absent : goal.returns-in-Absent
unfolding claim_or_next
returns-in-Absent c = ⊎_elim (λ e. rw e) (λ e. rw e) c.in-Absent.is
