-- `vrf_words::get32` satisfies its contract: the four bytes make the word.
use Rattle.std.proofs.Common.{◌∙◌, arith}
use Rattle.vrf_words.proofs.Writes.{word_of}
use Rattle.vrf_words.proofs.get32.Goals as goal

pub returns : goal.returns
returns c =
    let a = c.args in
    c.from_le_bytes.ensures ∙ word_of a.s.now a.i 4 0 (rw c.unwrap.ensures at c.try_into.ensures.1).same a.i (omega arith) (omega arith)
