-- After i turns, h is the hash of the first 32 * i bytes.
use Rattle.std.proofs.Common.{◌≡◌}
use Rattle.vrf_table.specs.TextIndex.{hash_up_to}
use Rattle.vrf_table.proofs.long_hash.Given as goal

abbrev pub invariant-loop-i : goal.invariant-loop-i
invariant-loop-i l = l.h ≡ hash_up_to l.t l.i
