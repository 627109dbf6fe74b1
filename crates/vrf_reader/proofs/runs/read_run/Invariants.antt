-- The loop of `read_run`.
use Rattle.vrf_reader.proofs.Laws.Times.{EntriesLeft}
use Rattle.vrf_reader.proofs.runs.read_run.Given as goal

abbrev pub invariant-loop : goal.invariant-loop
invariant-loop g l = EntriesLeft g.entry l.n l.initial.at l.initial.m l.counter l.at l.m
