-- The rows, heads and counts are those of the store.
use Rattle.std.proofs.Common.{◌∙◌, arith, rules}
use Rattle.vrf_bitio.specs.Bits.{Bytes}
use Rattle.vrf_words.proofs.Laws.Words.{bytes-part}
use Rattle.vrf_store.specs.Store.{words}
use Rattle.vrf_check.specs.Inner.Steps.{field_row_ok, fields_ok}
use Rattle.vrf_check.proofs.Laws.Tests.{field-row}
use Rattle.vrf_check.proofs.fields_ok.Goals as goal

pub returns : goal.returns
unfolding fields_ok words
returns c =
    let g = c.groups_by_index-groups.result in
    let t = c.fields_by_key-index.result in
    let bytes : Bytes t.rows.now = rw c.fields_by_key-index.ensures.rows (bytes-part c.args.m.now _ _ (λ i. omega (arith, c.type_inv.m i))) in
    c.each_below.ensures (field_row_ok g.rows.now g.count t.rows.now t.heads.now t.buckets t.count) (λ e r made. search (rules, field-row g t e bytes)) ∙ cc
