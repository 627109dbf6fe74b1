-- `vrf_store::fields::pass_row` satisfies its contract: the row is dropped or kept.
use Rattle.std.proofs.Common.{◌+◌, ◌*◌, arith}
use Rattle.vrf_words.proofs.Laws.Words.{word_bound}
use Rattle.vrf_table.specs.Table.{key, at, len, info}
use Rattle.vrf_store.proofs.Laws.Fields.Drop.{dropped-row, kept_row}
use Rattle.vrf_store.proofs.fields.pass_row.Goals as goal

pub returns-then-k-place : goal.returns-then-k-place
unfolding key len
returns-then-k-place c =
    let args = c.args in
    let small = word_bound args.t.now (6 * args.e + 4) (λ i. (c.slice_known-1.given i).fits) in
    (dropped-row args.t.now args.cap args.place args.e args.kept.rows args.kept.gone c.get64-k.ensures c.text_span-span.ensures.1 c.if-k-place.true, omega arith, omega (arith, small, c.text_span-span.ensures.1, c.requires))

pub returns : goal.returns
unfolding key at len info
returns c =
    let args = c.args in
    (kept_row args.t.now args.cap args.place args.e args.kept.rows args.kept.gone c.get64-k.ensures c.text_span-span.ensures.1 c.if-k-place.false c.text_span-span.ensures.0 c.get32-info.ensures c.push_row.ensures, omega arith, omega arith)
