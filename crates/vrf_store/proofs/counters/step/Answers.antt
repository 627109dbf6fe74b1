-- `vrf_store::counters::step` satisfies its contract: it changes one counter and nothing else.
use Rattle.vrf_store.specs.Store.{long}
use Rattle.vrf_store.proofs.Laws.Counters.{counted-one}
use Rattle.vrf_store.proofs.counters.step.Goals as goal

pub returns : goal.returns
unfolding long
returns c = counted-one c.args.m.now (λ i. (c.slice_known-1.given i).fits) c.requires c.args.counter cc
