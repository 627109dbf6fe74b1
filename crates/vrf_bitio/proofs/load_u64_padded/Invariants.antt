-- The word is what the bytes from place k on make.
use Rattle.vrf_bitio.proofs.Words.{Loaded}
use Rattle.vrf_bitio.proofs.load_u64_padded.Given as goal

abbrev pub invariant-loop-k : goal.invariant-loop-k
invariant-loop-k l = Loaded l.s l.i l.k l.word
