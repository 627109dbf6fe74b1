-- `vrf_store::look::leaf_start` satisfies its contract.
use Rattle.std.proofs.Common.{length, ap, arith}
use Rattle.vrf_table.specs.TextIndex.{text_start}
use Rattle.vrf_table.proofs.Laws.Table.{text_bucket-lt}
use Rattle.vrf_store.proofs.look.leaf_start.Goals as goal

pub get32-requires : goal.get32-requires
get32-requires c =
    let b = c.leaf_buckets-b in
    omega (arith, ap length c.leaf_heads.ensures, c.requires.0.valid.shaped.leaf_heads, c.text_bucket.ensures, b.ensures, text_bucket-lt b.result c.args.base.now (omega (arith, b.ensures)))

pub returns : goal.returns
unfolding text_start
returns c =
    cc (c.get32.ensures, c.text_bucket.ensures, c.leaf_heads.ensures, c.leaf_buckets-b.ensures)
