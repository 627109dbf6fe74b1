-- The tables are written, and then the word before them.
use Rattle.std.proofs.Common.{arith}
use Rattle.vrf_store.specs.Inner.Stepped.{held}
use Rattle.vrf_writer.proofs.Laws.Block.{block-length, tables-lent, tables-long, tables-count, word-last}
use Rattle.vrf_writer.proofs.block.put_block.Goals as goal

pub slice_bounds-put_tables-count : goal.slice_bounds-put_tables-count
slice_bounds-put_tables-count c = omega (arith, block-length (held c.args.m.now), c.requires.1)

pub slice_bounds-put_tables-start : goal.slice_bounds-put_tables-start
slice_bounds-put_tables-start c = omega (arith, block-length (held c.args.m.now), c.requires.1)

pub put_tables-n-requires : goal.put_tables-n-requires
put_tables-n-requires c = (c.requires.0, tables-lent (held c.args.m.now) c.args.out.now c.requires.1)

pub overflow_sub-n : goal.overflow_sub-n
overflow_sub-n c = omega (arith, tables-count (held c.args.m.now) c.args.out.now c.requires.1 c.put_tables-n.ensures)

pub overflow_cast-n : goal.overflow_cast-n
overflow_cast-n c = omega (arith, tables-count (held c.args.m.now) c.args.out.now c.requires.1 c.put_tables-n.ensures, c.requires.2)

pub put_word-requires : goal.put_word-requires
put_word-requires c =
    let it = held c.args.m.now in
    omega (arith, tables-long it c.args.out.now c.requires.1 c.put_tables-n.ensures, block-length it, c.requires.1)

pub overflow_add-result : goal.overflow_add-result
overflow_add-result c = omega (arith, tables-count (held c.args.m.now) c.args.out.now c.requires.1 c.put_tables-n.ensures, c.requires.2)

pub returns : goal.returns
returns c = word-last (held c.args.m.now) c.args.out.now c.requires.1 c.put_tables-n.ensures c.put_word.ensures
