-- The sums are those of the three tables.
use Rattle.vrf_store.specs.Check.{text_sum}
use Rattle.vrf_check.specs.Inner.Steps.{sum_ok}
use Rattle.vrf_check.proofs.sum_ok.Goals as goal

pub returns : goal.returns
unfolding sum_ok text_sum
returns c = cc
