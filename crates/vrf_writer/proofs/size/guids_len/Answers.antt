-- The three sums and two bytes for each record are the length of the records so far.
use Rattle.std.proofs.Common.{ℕ, List, length, refl, ap, ◌∙◌, arith}
use Rattle.vrf_bitio.specs.Number.{encode_packed}
use Rattle.vrf_text.specs.Text.{encode_text}
use Rattle.vrf_model.specs.Writer.{encode_guid}
use Rattle.vrf_store.specs.Store.{store_of}
use Rattle.vrf_writer.specs.Inner.Rows.{GuidRow, guid_in}
use Rattle.vrf_writer.proofs.Laws.Rows.{guid-good}
use Rattle.vrf_writer.proofs.Laws.Guids.{guids-code}
use Rattle.vrf_writer.proofs.Laws.Lengths.{packed-short, text-short}
use Rattle.vrf_writer.proofs.Laws.Size.{all-length, guid-length, guids-short, summed-start, summed-step, summed-end}
use Rattle.vrf_writer.proofs.size.guids_len.Goals as goal

pub loop-i-init : goal.loop-i-init
loop-i-init c = summed-start

-- each record has at most 4113 bytes
pub overflow_add-keys : goal.overflow_add-keys
overflow_add-keys c =
    let few = guids-short c.requires.valid c.guid_rows-rows.ensures c.texts-x.ensures c.guids-n.ensures c.loop-i.invariant in
    omega (arith, few, c.packed_len-keys.ensures, packed-short c.guid_of.result)

pub overflow_add-outers : goal.overflow_add-outers
overflow_add-outers c =
    let few = guids-short c.requires.valid c.guid_rows-rows.ensures c.texts-x.ensures c.guids-n.ensures c.loop-i.invariant in
    omega (arith, few, c.packed_len-outers.ensures, packed-short c.row_info.result)

pub overflow_add-paths : goal.overflow_add-paths
overflow_add-paths c =
    let few = guids-short c.requires.valid c.guid_rows-rows.ensures c.texts-x.ensures c.guids-n.ensures c.loop-i.invariant in
    let good : GuidRow c.guid_rows-rows.result.now c.texts-x.result.now c.loop-i.i = guid-good c.requires.valid c.texts-x.ensures c.guid_rows-rows.ensures (omega (arith, c.guids-n.ensures)) in
    omega (arith, few, c.text_len-paths.ensures, text-short c.row_text.result.now, ap length c.row_text.ensures, good.texts.short)

pub loop-i-preserved : goal.loop-i-preserved
loop-i-preserved c =
    let it = guid_in c.guid_rows-rows.result.now c.texts-x.result.now c.loop-i.i in
    let first = c.packed_len-keys.ensures ∙ ap (λ (n : ℕ). length (encode_packed n)) c.guid_of.ensures in
    let second = c.packed_len-outers.ensures ∙ ap (λ (n : ℕ). length (encode_packed n)) c.row_info.ensures in
    let third = c.text_len-paths.ensures ∙ ap (λ (t : List ℕ). length (encode_text t)) c.row_text.ensures in
    summed-step c.loop-i.invariant (omega arith) (omega (arith, guid-length it, first, second, third))

pub overflow_add-result : goal.overflow_add-result
overflow_add-result c = omega (arith, guids-short c.requires.valid c.guid_rows-rows.ensures c.texts-x.ensures c.guids-n.ensures c.loop-i.invariant)

pub overflow_add-result-2 : goal.overflow_add-result-2
overflow_add-result-2 c = omega (arith, guids-short c.requires.valid c.guid_rows-rows.ensures c.texts-x.ensures c.guids-n.ensures c.loop-i.invariant)

pub overflow_add-result-3 : goal.overflow_add-result-3
overflow_add-result-3 c = omega (arith, guids-short c.requires.valid c.guid_rows-rows.ensures c.texts-x.ensures c.guids-n.ensures c.loop-i.invariant)

pub returns : goal.returns
returns c =
    let code = guids-code (store_of c.args.m.now) c.guid_rows-rows.ensures c.texts-x.ensures c.guids-n.ensures in
    let its = guid_in c.guid_rows-rows.result.now c.texts-x.result.now in
    omega (arith, summed-end c.loop-i.invariant (omega arith) refl, c.loop-i.invariant.within, all-length encode_guid its c.guids-n.result, ap length code)
