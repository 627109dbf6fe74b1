-- The text follows its length.
use Rattle.std.proofs.Common.{arith}
use Rattle.vrf_writer.proofs.Laws.Numbers.{text-four, empty-put, text_space, text-put}
use Rattle.vrf_writer.proofs.numbers.put_text.Goals as goal

pub put_word-requires : goal.put_word-requires
put_word-requires c = omega (arith, text-four c.args.t.now, c.requires.0)

pub returns-then-n-eq0 : goal.returns-then-n-eq0
returns-then-n-eq0 c = empty-put c.args.t.now (omega arith) c.put_word.ensures

pub put_word-requires-2 : goal.put_word-requires-2
put_word-requires-2 c = omega (arith, text-four c.args.t.now, c.requires.0)

pub put_part-requires : goal.put_part-requires
put_part-requires c = omega (arith, text_space c.args.t.now c.args.out.now (λ z. omega (arith, z)) c.requires.0)

pub bounds-out-n : goal.bounds-out-n
bounds-out-n c = omega (arith, text_space c.args.t.now c.args.out.now (λ z. omega (arith, z)) c.requires.0)

pub returns : goal.returns
returns c = text-put c.args.t.now c.args.out.now (λ z. omega (arith, z)) c.requires.0 c.put_word-2.ensures c.put_part.ensures
