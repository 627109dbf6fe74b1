-- `vrf_bitio::whole_word` satisfies its contract: the eight bytes make the word.
use Rattle.std.proofs.Common.{◌∙◌}
use Rattle.vrf_bitio.proofs.Words.{eight}
use Rattle.vrf_bitio.proofs.whole_word.Goals as goal

pub returns : goal.returns
returns c =
    c.from_le_bytes.ensures ∙ eight c.args.s.now c.args.i (rw c.unwrap.ensures at c.try_into.ensures.1).same (λ k. (c.type_inv.s k).fits)
