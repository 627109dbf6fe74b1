-- `vrf_store::counters::read_counters` satisfies its contract: it reads two words for each counter.
use Rattle.vrf_store.specs.Store.{long, counters_of}
use Rattle.vrf_store.proofs.counters.read_counters.Goals as goal

pub returns : goal.returns
unfolding counters_of long
returns c = cc
