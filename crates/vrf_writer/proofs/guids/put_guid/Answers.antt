-- Each part is written after those before it.
use Rattle.std.proofs.Common.{◌≡◌, ◌+◌, ◌≤◌, ℕ, List, [], ◌∷◌, length, refl, ap, arith}
use Rattle.std.specs.Prelude.{slice_set}
use Rattle.vrf_bitio.specs.Number.{encode_packed}
use Rattle.vrf_text.specs.Text.{encode_text}
use Rattle.vrf_model.specs.Writer.{encode_guid}
use Rattle.vrf_table.specs.Table.{key, info, text}
use Rattle.vrf_writer.specs.Inner.Prefix.{WritesPrefix}
use Rattle.vrf_writer.specs.Inner.Rows.{guid_in}
use Rattle.vrf_writer.proofs.Laws.Prefix.{PartlyWritten, first-lent, first-put, lent_from, back_from, under-space, under-long, under-lent, under_next, under-byte, under-end}
use Rattle.vrf_writer.proofs.Laws.Guids.{outer_on, path_on, guid-code}
use Rattle.vrf_writer.proofs.guids.put_guid.Goals as goal

module _ (r x : List ℕ) (i : ℕ) {l : List ℕ} (fits : length (encode_guid (guid_in r x i)) ≤ length l)
    {n a : ℕ} {xs : List ℕ} (en : n ≡ key r i) (p : WritesPrefix (encode_packed n) l xs a) where
  -- after the GUID, after the outer and the kind byte, and after the path
  guid : PartlyWritten (encode_guid (guid_in r x i)) l xs a (outer_on (guid_in r x i))
  guid = let it = guid_in r x i in first-put l (encode_packed it.guid) (outer_on it) (guid-code it) fits (ap encode_packed en) p

  module _ {o b : ℕ} {ys : List ℕ} (eo : o ≡ info r i) (q : WritesPrefix (encode_packed o) (lent_from xs a) ys b) where
    outer : PartlyWritten (encode_guid (guid_in r x i)) l (back_from xs a ys) (a + b) (1 ∷ path_on (guid_in r x i))
    outer = let it = guid_in r x i in under_next (encode_packed it.outer) (1 ∷ path_on it) guid (ap encode_packed eo) q

    kind : PartlyWritten (encode_guid (guid_in r x i)) l (slice_set (back_from xs a ys) (a + b) 1) (a + b + 1) (path_on (guid_in r x i))
    kind = under-byte 1 outer

    path : {t zs : List ℕ} {d : ℕ} → t ≡ text r x i → WritesPrefix (encode_text t) (lent_from (slice_set (back_from xs a ys) (a + b) 1) (a + b + 1)) zs d
        → PartlyWritten (encode_guid (guid_in r x i)) l (back_from (slice_set (back_from xs a ys) (a + b) 1) (a + b + 1) zs) (a + b + 1 + d) (0 ∷ [])
    path et w = under_next (encode_text (text r x i)) (0 ∷ []) kind (ap encode_text et) w

pub put_packed-at-requires : goal.put_packed-at-requires
put_packed-at-requires c =
    let it = guid_in c.args.rows.now c.args.x.now c.args.i in
    first-lent c.args.out.now (encode_packed it.guid) (outer_on it) (guid-code it) c.requires.1 (ap encode_packed c.guid_of.ensures)

pub slice_bounds-put_packed-count : goal.slice_bounds-put_packed-count
slice_bounds-put_packed-count c = omega (arith, under-space (guid c.args.rows.now c.args.x.now c.args.i c.requires.1 c.guid_of.ensures c.put_packed-at.ensures))

pub slice_bounds-put_packed-start : goal.slice_bounds-put_packed-start
slice_bounds-put_packed-start c = omega (arith, under-space (guid c.args.rows.now c.args.x.now c.args.i c.requires.1 c.guid_of.ensures c.put_packed-at.ensures))

pub put_packed-at-requires-2 : goal.put_packed-at-requires-2
put_packed-at-requires-2 c =
    let it = guid_in c.args.rows.now c.args.x.now c.args.i in
    let u = guid c.args.rows.now c.args.x.now c.args.i c.requires.1 c.guid_of.ensures c.put_packed-at.ensures in
    under-lent (encode_packed it.outer) (1 ∷ path_on it) u (ap encode_packed c.row_info.ensures)

pub overflow_add-at : goal.overflow_add-at
overflow_add-at c =
    let u = outer c.args.rows.now c.args.x.now c.args.i c.requires.1 c.guid_of.ensures c.put_packed-at.ensures c.row_info.ensures c.put_packed-at-2.ensures in
    omega (arith, under-space u, under-long u)

pub bounds-out-at : goal.bounds-out-at
bounds-out-at c =
    let u = outer c.args.rows.now c.args.x.now c.args.i c.requires.1 c.guid_of.ensures c.put_packed-at.ensures c.row_info.ensures c.put_packed-at-2.ensures in
    omega (arith, under-space u)

pub overflow_add-at-2 : goal.overflow_add-at-2
overflow_add-at-2 c =
    let u = outer c.args.rows.now c.args.x.now c.args.i c.requires.1 c.guid_of.ensures c.put_packed-at.ensures c.row_info.ensures c.put_packed-at-2.ensures in
    omega (arith, under-space u, under-long u)

pub slice_bounds-put_text-count : goal.slice_bounds-put_text-count
slice_bounds-put_text-count c =
    let u = kind c.args.rows.now c.args.x.now c.args.i c.requires.1 c.guid_of.ensures c.put_packed-at.ensures c.row_info.ensures c.put_packed-at-2.ensures in
    omega (arith, under-space u)

pub slice_bounds-put_text-start : goal.slice_bounds-put_text-start
slice_bounds-put_text-start c =
    let u = kind c.args.rows.now c.args.x.now c.args.i c.requires.1 c.guid_of.ensures c.put_packed-at.ensures c.row_info.ensures c.put_packed-at-2.ensures in
    omega (arith, under-space u)

pub put_text-at-requires : goal.put_text-at-requires
put_text-at-requires c =
    let u = kind c.args.rows.now c.args.x.now c.args.i c.requires.1 c.guid_of.ensures c.put_packed-at.ensures c.row_info.ensures c.put_packed-at-2.ensures in
    let path = text c.args.rows.now c.args.x.now c.args.i in
    (under-lent (encode_text path) (0 ∷ []) u (ap encode_text c.row_text.ensures), rw c.row_text.ensures c.requires.0.texts.short)

pub overflow_add-at-3 : goal.overflow_add-at-3
overflow_add-at-3 c =
    let u = path c.args.rows.now c.args.x.now c.args.i c.requires.1 c.guid_of.ensures c.put_packed-at.ensures c.row_info.ensures c.put_packed-at-2.ensures c.row_text.ensures c.put_text-at.ensures in
    omega (arith, under-space u, under-long u)

pub bounds-out-at-2 : goal.bounds-out-at-2
bounds-out-at-2 c =
    let u = path c.args.rows.now c.args.x.now c.args.i c.requires.1 c.guid_of.ensures c.put_packed-at.ensures c.row_info.ensures c.put_packed-at-2.ensures c.row_text.ensures c.put_text-at.ensures in
    omega (arith, under-space u)

pub overflow_add-result : goal.overflow_add-result
overflow_add-result c =
    let u = path c.args.rows.now c.args.x.now c.args.i c.requires.1 c.guid_of.ensures c.put_packed-at.ensures c.row_info.ensures c.put_packed-at-2.ensures c.row_text.ensures c.put_text-at.ensures in
    omega (arith, under-space u, under-long u)

pub returns : goal.returns
returns c =
    let u = path c.args.rows.now c.args.x.now c.args.i c.requires.1 c.guid_of.ensures c.put_packed-at.ensures c.row_info.ensures c.put_packed-at-2.ensures c.row_text.ensures c.put_text-at.ensures in
    under-end (under-byte 0 u) refl
