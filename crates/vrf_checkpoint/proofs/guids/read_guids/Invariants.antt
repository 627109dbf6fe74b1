use Rattle.vrf_checkpoint.proofs.Laws.Guids.{EntriesRead}
use Rattle.vrf_checkpoint.proofs.guids.read_guids.Given as goal

abbrev pub invariant-loop-entry : goal.invariant-loop-entry
invariant-loop-entry l = EntriesRead l.n l.fn.reader l.fn.m l.entry l.at l.m l.t
