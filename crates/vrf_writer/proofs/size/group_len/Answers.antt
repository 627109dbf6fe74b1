-- The path, the index, the number of slots, and a byte for each of them.
use Rattle.std.proofs.Common.{ℕ, List, length, ap, ◌∙◌, arith}
use Rattle.vrf_bitio.specs.Number.{encode_packed}
use Rattle.vrf_text.specs.Text.{encode_text}
use Rattle.vrf_store.specs.Store.{store_of}
use Rattle.vrf_writer.specs.Inner.Size.{group_bytes}
use Rattle.vrf_writer.proofs.Laws.Groups.{path-is, path-short, index-is, slots-are}
use Rattle.vrf_writer.proofs.Laws.Lengths.{packed-short, text-short}
use Rattle.vrf_writer.proofs.size.group_len.Goals as goal

pub text_len-path-requires : goal.text_len-path-requires
text_len-path-requires c = path-short (store_of c.args.m.now) c.args.g c.requires.1 c.requires.0.valid c.group_path.ensures

pub overflow_add-result : goal.overflow_add-result
overflow_add-result c =
    let path = path-short (store_of c.args.m.now) c.args.g c.requires.1 c.requires.0.valid c.group_path.ensures in
    omega (arith, path, c.text_len-path.ensures, text-short c.group_path.result.now, c.packed_len.ensures, packed-short c.group_index.result)

pub overflow_add-result-2 : goal.overflow_add-result-2
overflow_add-result-2 c =
    let path = path-short (store_of c.args.m.now) c.args.g c.requires.1 c.requires.0.valid c.group_path.ensures in
    let index = packed-short c.group_index.result in
    omega (arith, path, c.text_len-path.ensures, text-short c.group_path.result.now, c.packed_len.ensures, index, c.packed_len-2.ensures, packed-short c.group_slots-slots.result)

pub overflow_add-result-3 : goal.overflow_add-result-3
overflow_add-result-3 c =
    let path = path-short (store_of c.args.m.now) c.args.g c.requires.1 c.requires.0.valid c.group_path.ensures in
    let index = packed-short c.group_index.result in
    omega (arith, path, c.text_len-path.ensures, text-short c.group_path.result.now, c.packed_len.ensures, index, c.packed_len-2.ensures, packed-short c.group_slots-slots.result)

pub returns : goal.returns
unfolding group_bytes
returns c =
    let s = store_of c.args.m.now in
    let path = ap (λ (t : List ℕ). length (encode_text t)) (path-is s c.args.g c.requires.1 c.group_path.ensures) in
    let index = ap (λ (n : ℕ). length (encode_packed n)) (index-is s c.args.g c.requires.1 c.group_index.ensures) in
    let slots = slots-are s c.args.g c.requires.1 c.group_slots-slots.ensures in
    omega (arith, c.text_len-path.ensures ∙ path, c.packed_len.ensures ∙ index, c.packed_len-2.ensures ∙ ap (λ (n : ℕ). length (encode_packed n)) slots, slots)
