-- One case for each claim.
use Rattle.vrf_cache.specs.Inner.Resolve.{decides}
use Rattle.vrf_cache.proofs.resolve.decides.Goals as goal

pub returns-in-Absent : goal.returns-in-Absent
unfolding decides
returns-in-Absent c = rw c.in-Absent.is

pub returns-in-Ambiguous : goal.returns-in-Ambiguous
unfolding decides
returns-in-Ambiguous c = rw c.in-Ambiguous.is

pub returns-in-Only : goal.returns-in-Only
unfolding decides
returns-in-Only c = rw c.in-Only.is
