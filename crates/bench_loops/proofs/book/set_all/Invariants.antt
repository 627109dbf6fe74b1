use Rattle.vrf_store.specs.Inner.WellFormed.{WellFormed}
use Rattle.bench_loops.proofs.book.set_all.Given as goal

abbrev pub invariant-loop-i : goal.invariant-loop-i
invariant-loop-i l = WellFormed l.m
