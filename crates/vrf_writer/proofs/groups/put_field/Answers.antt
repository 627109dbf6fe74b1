-- Each part is written after those before it.
use Rattle.std.proofs.Common.{◌≡◌, ◌+◌, ◌≤◌, ℕ, List, ◌++◌, length, refl, ap, ◌∙◌, ap₂, arith}
use Rattle.std.specs.Prelude.{slice_set}
use Rattle.vrf_bitio.specs.Number.{encode_packed, encode_word32}
use Rattle.vrf_model.specs.Writer.{encode_slot}
use Rattle.vrf_table.specs.Table.{info, text}
use Rattle.vrf_store.specs.Store.{Store, store_of, field_at}
use Rattle.vrf_writer.specs.Inner.Prefix.{WritesPrefix}
use Rattle.vrf_writer.specs.Inner.Rows.{TextRow}
use Rattle.vrf_writer.specs.Inner.Groups.{name_code}
use Rattle.vrf_writer.proofs.Laws.Prefix.{PartlyWritten, lent_from, back_from, under-space, under-long, under-lent, under_next, under-byte, last-lent, last-put, last-space}
use Rattle.vrf_writer.proofs.Laws.Numbers.{word-length}
use Rattle.vrf_writer.proofs.Laws.Rows.{field-good}
use Rattle.vrf_writer.proofs.Laws.Groups.{checksum_on, field-start}
use Rattle.vrf_writer.proofs.groups.put_field.Goals as goal

module _ (s : Store) (slot e : ℕ) (l : List ℕ) (fits : length (encode_slot slot (field_at s e)) ≤ length l) where
  abbrev number : ℕ
  number = info s.field_rows e

  abbrev name : List ℕ
  name = text s.field_rows s.texts e

  -- after the first byte, after the handle, and after the checksum
  first : PartlyWritten (encode_slot slot (field_at s e)) l (slice_set l 0 1) 1 (encode_packed slot ++ checksum_on number name)
  first = under-byte 1 (field-start s slot e l fits)

  handle : {xs : List ℕ} {n : ℕ} → WritesPrefix (encode_packed slot) (lent_from (slice_set l 0 1) 1) xs n
      → PartlyWritten (encode_slot slot (field_at s e)) l (back_from (slice_set l 0 1) 1 xs) (1 + n) (checksum_on number name)
  handle p = under_next (encode_packed slot) (checksum_on number name) first refl p

  checksum : {xs ys r : List ℕ} {n k i : ℕ} → WritesPrefix (encode_packed slot) (lent_from (slice_set l 0 1) 1) xs n
      → r ≡ s.field_rows → i ≡ info r e → WritesPrefix (encode_word32 i) (lent_from (back_from (slice_set l 0 1) 1 xs) (1 + n)) ys k
      → PartlyWritten (encode_slot slot (field_at s e)) l (back_from (back_from (slice_set l 0 1) 1 xs) (1 + n) ys) (1 + n + k) (name_code name)
  checksum p er ei q = under_next (encode_word32 number) (name_code name) (handle p) (ap encode_word32 (ei ∙ ap (λ (r : List ℕ). info r e) er)) q

pub bounds-out-0 : goal.bounds-out-0
bounds-out-0 c = omega (arith, under-space (field-start (store_of c.args.m.now) c.args.slot c.args.e c.args.out.now c.requires.2))

pub slice_bounds-put_packed-count : goal.slice_bounds-put_packed-count
slice_bounds-put_packed-count c = omega (arith, under-space (first (store_of c.args.m.now) c.args.slot c.args.e c.args.out.now c.requires.2))

pub slice_bounds-put_packed-start : goal.slice_bounds-put_packed-start
slice_bounds-put_packed-start c = omega (arith, under-space (first (store_of c.args.m.now) c.args.slot c.args.e c.args.out.now c.requires.2))

pub put_packed-at-requires : goal.put_packed-at-requires
put_packed-at-requires c =
    let s = store_of c.args.m.now in
    let slot = c.args.slot in
    let e = c.args.e in
    under-lent (encode_packed slot) (checksum_on (number s slot e c.args.out.now c.requires.2) (name s slot e c.args.out.now c.requires.2)) (first s slot e c.args.out.now c.requires.2) refl

pub overflow_add-at : goal.overflow_add-at
overflow_add-at c =
    let u = handle (store_of c.args.m.now) c.args.slot c.args.e c.args.out.now c.requires.2 c.put_packed-at.ensures in
    omega (arith, under-space u, under-long u)

pub slice_bounds-put_word-count : goal.slice_bounds-put_word-count
slice_bounds-put_word-count c = omega (arith, under-space (handle (store_of c.args.m.now) c.args.slot c.args.e c.args.out.now c.requires.2 c.put_packed-at.ensures))

pub slice_bounds-put_word-start : goal.slice_bounds-put_word-start
slice_bounds-put_word-start c = omega (arith, under-space (handle (store_of c.args.m.now) c.args.slot c.args.e c.args.out.now c.requires.2 c.put_packed-at.ensures))

pub put_word-at-requires : goal.put_word-at-requires
put_word-at-requires c =
    let s = store_of c.args.m.now in
    let number = info s.field_rows c.args.e in
    let u = handle s c.args.slot c.args.e c.args.out.now c.requires.2 c.put_packed-at.ensures in
    omega (arith, under-lent (encode_word32 number) (name_code (text s.field_rows s.texts c.args.e)) u refl, word-length number)

pub overflow_add-at-2 : goal.overflow_add-at-2
overflow_add-at-2 c =
    let u = checksum (store_of c.args.m.now) c.args.slot c.args.e c.args.out.now c.requires.2 c.put_packed-at.ensures c.field_rows-rows.ensures c.row_info.ensures c.put_word-at.ensures in
    omega (arith, under-space u, under-long u)

pub slice_bounds-put_name-count : goal.slice_bounds-put_name-count
slice_bounds-put_name-count c =
    let u = checksum (store_of c.args.m.now) c.args.slot c.args.e c.args.out.now c.requires.2 c.put_packed-at.ensures c.field_rows-rows.ensures c.row_info.ensures c.put_word-at.ensures in
    omega (arith, under-space u)

pub slice_bounds-put_name-start : goal.slice_bounds-put_name-start
slice_bounds-put_name-start c =
    let u = checksum (store_of c.args.m.now) c.args.slot c.args.e c.args.out.now c.requires.2 c.put_packed-at.ensures c.field_rows-rows.ensures c.row_info.ensures c.put_word-at.ensures in
    omega (arith, under-space u)

pub put_name-requires : goal.put_name-requires
put_name-requires c =
    let u = checksum (store_of c.args.m.now) c.args.slot c.args.e c.args.out.now c.requires.2 c.put_packed-at.ensures c.field_rows-rows.ensures c.row_info.ensures c.put_word-at.ensures in
    let row : TextRow c.field_rows-rows.result.now c.texts.result.now c.args.e = field-good c.requires.0.valid c.texts.ensures c.field_rows-rows.ensures c.requires.1 in
    let same = c.row_text.ensures ∙ ap₂ (λ (r x : List ℕ). text r x c.args.e) c.field_rows-rows.ensures c.texts.ensures in
    (last-lent u (ap name_code same), rw c.row_text.ensures row.short)

pub overflow_add-result : goal.overflow_add-result
overflow_add-result c =
    let u = checksum (store_of c.args.m.now) c.args.slot c.args.e c.args.out.now c.requires.2 c.put_packed-at.ensures c.field_rows-rows.ensures c.row_info.ensures c.put_word-at.ensures in
    let same = c.row_text.ensures ∙ ap₂ (λ (r x : List ℕ). text r x c.args.e) c.field_rows-rows.ensures c.texts.ensures in
    omega (arith, c, last-space u (ap name_code same) c.put_name.ensures)

pub returns : goal.returns
returns c =
    let u = checksum (store_of c.args.m.now) c.args.slot c.args.e c.args.out.now c.requires.2 c.put_packed-at.ensures c.field_rows-rows.ensures c.row_info.ensures c.put_word-at.ensures in
    let same = c.row_text.ensures ∙ ap₂ (λ (r x : List ℕ). text r x c.args.e) c.field_rows-rows.ensures c.texts.ensures in
    last-put u (ap name_code same) c.put_name.ensures
