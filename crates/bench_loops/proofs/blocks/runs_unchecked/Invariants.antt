use Rattle.vrf_store.specs.Inner.WellFormed.{WellFormed}
use Rattle.bench_loops.proofs.blocks.runs_unchecked.Given as goal

abbrev pub invariant-loop : goal.invariant-loop
invariant-loop l = WellFormed l.m
