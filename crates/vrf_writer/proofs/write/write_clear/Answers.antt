-- The block fits, by the upper bound or by its length.
use Rattle.std.proofs.Common.{◌≤◌, length, refl, arith}
use Rattle.vrf_model.specs.Writer.{encode_book}
use Rattle.vrf_store.specs.Inner.Stepped.{held}
use Rattle.vrf_writer.proofs.Laws.Writes.{writes-long, writes-all}
use Rattle.vrf_writer.proofs.write.write_clear.Goals.{then-space-most_len+else-space-n, else-space-most_len}
use Rattle.vrf_writer.proofs.write.write_clear.Goals as goal

pub returns-then-space-n : goal.returns-then-space-n
returns-then-space-n c =
    writes-long (held c.args.m.now) c.requires.1 c.block_len-n.ensures c.too_long.ensures (omega (arith, c.min-space.ensures, c.if-space-n.true)) refl

pub returns : goal.returns
returns c =
    let p = c.put_block.ensures in
    let below : length (encode_book (held c.args.m.now)) ≤ c.min-space.result =
    elim c.if-space-most_len.branch [
      | then-space-most_len+else-space-n w ↦ omega (arith, w.block_len-n.ensures, w.if-space-n.false)
      | else-space-most_len w ↦ omega (arith, c.most_len.ensures, w.if-space-most_len.false)
    ] in
    writes-all (held c.args.m.now) c.requires.1 p.count (omega (arith, p.count, c.min-space.ensures)) p.bytes
