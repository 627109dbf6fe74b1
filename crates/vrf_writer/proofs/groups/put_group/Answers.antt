-- Each part is written after those before it.
use Rattle.std.proofs.Common.{◌≡◌, ◌+◌, ◌<◌, ◌≤◌, ℕ, List, [], length, refl, ap, arith}
use Rattle.vrf_bitio.specs.Number.{encode_packed}
use Rattle.vrf_text.specs.Text.{encode_text}
use Rattle.vrf_model.specs.Book.{Group}
use Rattle.vrf_model.specs.Lookup.{place_or}
use Rattle.vrf_model.specs.Writer.{encode_slots, encode_group}
use Rattle.vrf_store.specs.Store.{Store, store_of, content_of}
use Rattle.vrf_writer.specs.Inner.Prefix.{WritesPrefix}
use Rattle.vrf_writer.specs.Inner.Groups.{group_at}
use Rattle.vrf_writer.proofs.Laws.Prefix.{PartlyWritten, first-lent, first-put, lent_from, back_from, under-space, under-long, under-lent, under_next, last-lent, last-put, last-space}
use Rattle.vrf_writer.proofs.Laws.Groups.{index_on, slots_on, group-code, path-is, path-short, index-is, slots-are}
use Rattle.vrf_writer.proofs.groups.put_group.Goals as goal

module _ (s : Store) (g : ℕ) (h : g < s.header.groups) {l : List ℕ} (fits : length (encode_group (group_at s g)) ≤ length l)
    {t xs : List ℕ} {a : ℕ} (et : t ≡ place_or (λ (g : Group). g.path) [] (content_of s).groups g) (p : WritesPrefix (encode_text t) l xs a) where
  -- after the path, after the index, and after the number of slots
  path : PartlyWritten (encode_group (group_at s g)) l xs a (index_on (group_at s g))
  path = let it = group_at s g in first-put l (encode_text it.path) (index_on it) (group-code it) fits (ap encode_text (path-is s g h et)) p

  module _ {i b : ℕ} {ys : List ℕ} (ei : i ≡ place_or (λ (g : Group). g.index) 0 (content_of s).groups g) (q : WritesPrefix (encode_packed i) (lent_from xs a) ys b) where
    index : PartlyWritten (encode_group (group_at s g)) l (back_from xs a ys) (a + b) (slots_on (group_at s g))
    index = let it = group_at s g in under_next (encode_packed it.index) (slots_on it) path (ap encode_packed (index-is s g h ei)) q

    count : {n d : ℕ} {zs : List ℕ} → n ≡ place_or (λ (g : Group). length g.slots) 0 (content_of s).groups g
        → WritesPrefix (encode_packed n) (lent_from (back_from xs a ys) (a + b)) zs d
        → PartlyWritten (encode_group (group_at s g)) l (back_from (back_from xs a ys) (a + b) zs) (a + b + d) (encode_slots 0 (group_at s g).slots)
    count en r = let slots = (group_at s g).slots in under_next (encode_packed (length slots)) (encode_slots 0 slots) index (ap encode_packed (slots-are s g h en)) r

pub put_text-at-requires : goal.put_text-at-requires
put_text-at-requires c =
    let s = store_of c.args.m.now in
    let it = group_at s c.args.g in
    let same = ap encode_text (path-is s c.args.g c.requires.1 c.group_path.ensures) in
    (first-lent c.args.out.now (encode_text it.path) (index_on it) (group-code it) c.requires.2 same, path-short s c.args.g c.requires.1 c.requires.0.valid c.group_path.ensures)

pub slice_bounds-put_packed-count : goal.slice_bounds-put_packed-count
slice_bounds-put_packed-count c = omega (arith, under-space (path (store_of c.args.m.now) c.args.g c.requires.1 c.requires.2 c.group_path.ensures c.put_text-at.ensures))

pub slice_bounds-put_packed-start : goal.slice_bounds-put_packed-start
slice_bounds-put_packed-start c = omega (arith, under-space (path (store_of c.args.m.now) c.args.g c.requires.1 c.requires.2 c.group_path.ensures c.put_text-at.ensures))

pub put_packed-at-requires : goal.put_packed-at-requires
put_packed-at-requires c =
    let s = store_of c.args.m.now in
    let it = group_at s c.args.g in
    let u = path s c.args.g c.requires.1 c.requires.2 c.group_path.ensures c.put_text-at.ensures in
    under-lent (encode_packed it.index) (slots_on it) u (ap encode_packed (index-is s c.args.g c.requires.1 c.group_index.ensures))

pub overflow_add-at : goal.overflow_add-at
overflow_add-at c =
    let u = index (store_of c.args.m.now) c.args.g c.requires.1 c.requires.2 c.group_path.ensures c.put_text-at.ensures c.group_index.ensures c.put_packed-at.ensures in
    omega (arith, under-space u, under-long u)

pub slice_bounds-put_packed-count-2 : goal.slice_bounds-put_packed-count-2
slice_bounds-put_packed-count-2 c =
    let u = index (store_of c.args.m.now) c.args.g c.requires.1 c.requires.2 c.group_path.ensures c.put_text-at.ensures c.group_index.ensures c.put_packed-at.ensures in
    omega (arith, under-space u)

pub slice_bounds-put_packed-start-2 : goal.slice_bounds-put_packed-start-2
slice_bounds-put_packed-start-2 c =
    let u = index (store_of c.args.m.now) c.args.g c.requires.1 c.requires.2 c.group_path.ensures c.put_text-at.ensures c.group_index.ensures c.put_packed-at.ensures in
    omega (arith, under-space u)

pub put_packed-at-requires-2 : goal.put_packed-at-requires-2
put_packed-at-requires-2 c =
    let s = store_of c.args.m.now in
    let slots = (group_at s c.args.g).slots in
    let u = index s c.args.g c.requires.1 c.requires.2 c.group_path.ensures c.put_text-at.ensures c.group_index.ensures c.put_packed-at.ensures in
    under-lent (encode_packed (length slots)) (encode_slots 0 slots) u (ap encode_packed (slots-are s c.args.g c.requires.1 c.group_slots.ensures))

pub overflow_add-at-2 : goal.overflow_add-at-2
overflow_add-at-2 c =
    let u = count (store_of c.args.m.now) c.args.g c.requires.1 c.requires.2 c.group_path.ensures c.put_text-at.ensures c.group_index.ensures c.put_packed-at.ensures c.group_slots.ensures c.put_packed-at-2.ensures in
    omega (arith, under-space u, under-long u)

pub slice_bounds-put_slots-count : goal.slice_bounds-put_slots-count
slice_bounds-put_slots-count c =
    let u = count (store_of c.args.m.now) c.args.g c.requires.1 c.requires.2 c.group_path.ensures c.put_text-at.ensures c.group_index.ensures c.put_packed-at.ensures c.group_slots.ensures c.put_packed-at-2.ensures in
    omega (arith, under-space u)

pub slice_bounds-put_slots-start : goal.slice_bounds-put_slots-start
slice_bounds-put_slots-start c =
    let u = count (store_of c.args.m.now) c.args.g c.requires.1 c.requires.2 c.group_path.ensures c.put_text-at.ensures c.group_index.ensures c.put_packed-at.ensures c.group_slots.ensures c.put_packed-at-2.ensures in
    omega (arith, under-space u)

pub put_slots-requires : goal.put_slots-requires
put_slots-requires c =
    let u = count (store_of c.args.m.now) c.args.g c.requires.1 c.requires.2 c.group_path.ensures c.put_text-at.ensures c.group_index.ensures c.put_packed-at.ensures c.group_slots.ensures c.put_packed-at-2.ensures in
    (c.requires.0, c.requires.1, last-lent u refl)

pub overflow_add-result : goal.overflow_add-result
overflow_add-result c =
    let u = count (store_of c.args.m.now) c.args.g c.requires.1 c.requires.2 c.group_path.ensures c.put_text-at.ensures c.group_index.ensures c.put_packed-at.ensures c.group_slots.ensures c.put_packed-at-2.ensures in
    omega (arith, c, last-space u refl c.put_slots.ensures)

pub returns : goal.returns
returns c =
    let u = count (store_of c.args.m.now) c.args.g c.requires.1 c.requires.2 c.group_path.ensures c.put_text-at.ensures c.group_index.ensures c.put_packed-at.ensures c.group_slots.ensures c.put_packed-at-2.ensures in
    last-put u refl c.put_slots.ensures
