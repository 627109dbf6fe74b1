-- A word is written byte by byte.
use Rattle.vrf_writer.proofs.Laws.Numbers.{word-put}
use Rattle.vrf_writer.proofs.numbers.put_word.Goals as goal

pub returns : goal.returns
returns c = word-put c.args.n c.put32.ensures
