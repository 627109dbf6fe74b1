-- `vrf_store::rows::push_row` satisfies its contract: its writes are those of `pushed`.
use Rattle.std.proofs.Common.{add-one, arith}
use Rattle.vrf_table.proofs.Laws.Table.{key_bucket-lt}
use Rattle.vrf_store.proofs.Laws.Memory.Tables.{pushed-by}
use Rattle.vrf_store.proofs.rows.push_row.Goals as goal

pub get32-link-requires : goal.get32-link-requires
get32-link-requires c =
    omega (arith, key_bucket-lt c.args.b c.args.k c.requires.3, c.key_bucket.ensures)

pub put32-requires : goal.put32-requires
put32-requires c =
    omega (arith, key_bucket-lt c.args.b c.args.k c.requires.3, c.requires.0, c.key_bucket.ensures, c.put_key.auto.rows, c.put_text.auto.rows)

pub returns : goal.returns
returns c =
    let args = c.args in
    cc (pushed-by args.t.now args.cap args.b c.requires.0 args.n c.requires.1 c.requires.3 args.k args.span.at args.span.len args.info, add-one args.n)
