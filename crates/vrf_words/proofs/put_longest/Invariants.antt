-- After i turns the first 32 i bytes are written, or all of them.
use Rattle.std.specs.Prelude.{◌*◌, min, length}
use Rattle.vrf_words.proofs.Copies.{PartCopied}
use Rattle.vrf_words.proofs.put_longest.Given as goal

abbrev pub invariant-loop-i : goal.invariant-loop-i
invariant-loop-i l = PartCopied l.initial.m l.m l.t l.at (min (32 * l.i) (length l.t))
