-- `vrf_words::get64` satisfies its contract: the eight bytes make two words.
use Rattle.std.proofs.Common.{◌+◌, arith}
use Rattle.vrf_words.proofs.Writes.{word_of}
use Rattle.vrf_words.proofs.get64.Goals as goal

pub returns : goal.returns
returns c =
    let a = c.args in
    let same = (rw c.unwrap.ensures at c.try_into.ensures.1).same in
    let lo = word_of a.s.now a.i 8 0 same a.i (omega arith) (omega arith) in
    let hi = word_of a.s.now a.i 8 1 same (a.i + 1) (omega arith) (omega arith) in
    omega (arith, c.from_le_bytes.ensures)
