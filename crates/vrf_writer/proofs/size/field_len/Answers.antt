-- The handle, 9 bytes, and the name.
use Rattle.std.proofs.Common.{ℕ, ◌%◌, List, length, ap, ◌∙◌, ap₂, arith}
use Rattle.vrf_bitio.specs.Number.{encode_packed}
use Rattle.vrf_text.specs.Text.{encode_text}
use Rattle.vrf_table.specs.Table.{key, text}
use Rattle.vrf_store.specs.Store.{field_at}
use Rattle.vrf_writer.specs.Inner.Rows.{TextRow}
use Rattle.vrf_writer.specs.Inner.Size.{beyond}
use Rattle.vrf_writer.proofs.Laws.Rows.{field-good}
use Rattle.vrf_writer.proofs.Laws.Lengths.{packed-short, text-short}
use Rattle.vrf_writer.proofs.size.field_len.Goals as goal

pub overflow_add-result : goal.overflow_add-result
overflow_add-result c = omega (arith, c.packed_len.ensures, packed-short (c.row_key.result % 65536))

pub overflow_add-result-2 : goal.overflow_add-result-2
overflow_add-result-2 c =
    let row : TextRow c.field_rows-rows.result.now c.texts.result.now c.args.e = field-good c.requires.0.valid c.texts.ensures c.field_rows-rows.ensures c.requires.1 in
    omega (arith, c.packed_len.ensures, packed-short (c.row_key.result % 65536), c.text_len.ensures, text-short c.row_text.result.now, ap length c.row_text.ensures, row.short)

pub returns : goal.returns
unfolding beyond field_at
returns c =
    let slot = ap (λ (n : ℕ). length (encode_packed (n % 65536))) (c.row_key.ensures ∙ ap (λ (r : List ℕ). key r c.args.e) c.field_rows-rows.ensures) in
    let name = ap (λ (t : List ℕ). length (encode_text t)) (c.row_text.ensures ∙ ap₂ (λ (r x : List ℕ). text r x c.args.e) c.field_rows-rows.ensures c.texts.ensures) in
    omega (arith, c.packed_len.ensures ∙ slot, c.text_len.ensures ∙ name)
