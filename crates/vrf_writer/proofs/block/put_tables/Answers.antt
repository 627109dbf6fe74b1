-- Each part is written after those before it.
use Rattle.std.proofs.Common.{◌≡◌, ◌+◌, ◌≤◌, ℕ, List, ◌++◌, length, replicate, refl, ap, arith}
use Rattle.vrf_bitio.specs.Number.{encode_word32}
use Rattle.vrf_bitio.specs.Pasted.{pasted}
use Rattle.vrf_model.specs.Writer.{encode_guid, encode_group, encode_all, encode_tables}
use Rattle.vrf_store.specs.Store.{Store, store_of, content_of}
use Rattle.vrf_store.specs.Inner.Stepped.{held}
use Rattle.vrf_writer.specs.Inner.Prefix.{WritesPrefix}
use Rattle.vrf_writer.proofs.Laws.Prefix.{PartlyWritten, lent_from, back_from, under-space, under-long, under-lent, under_next, last-lent, last-put, last-space}
use Rattle.vrf_writer.proofs.Laws.Numbers.{word-length}
use Rattle.vrf_writer.proofs.Laws.Block.{guids_on, groups_on, tables-length, zeros-put, guids-count, groups-count}
use Rattle.vrf_writer.proofs.block.put_tables.Goals as goal

module _ (s : Store) (l : List ℕ) (fits : length (encode_tables (content_of s)) ≤ length l) {ws : List ℕ} (zeros : ws ≡ pasted l 0 (replicate 12 0)) where
  -- after the zero words, after the GUID count, after the GUID records, and after the group count
  first : PartlyWritten (encode_tables (content_of s)) l ws 12 (encode_word32 (length (content_of s).guids) ++ guids_on (content_of s))
  first = zeros-put (content_of s) l fits zeros

  module _ {n a : ℕ} {xs : List ℕ} (en : n ≡ s.header.guids) (p : WritesPrefix (encode_word32 n) (lent_from ws 12) xs a) where
    count : PartlyWritten (encode_tables (content_of s)) l (back_from ws 12 xs) (12 + a) (guids_on (content_of s))
    count = under_next (encode_word32 (length (content_of s).guids)) (guids_on (content_of s)) first (ap encode_word32 (guids-count s en)) p

    module _ {b : ℕ} {ys : List ℕ} (q : WritesPrefix (encode_all encode_guid (content_of s).guids) (lent_from (back_from ws 12 xs) (12 + a)) ys b) where
      guids : PartlyWritten (encode_tables (content_of s)) l (back_from (back_from ws 12 xs) (12 + a) ys) (12 + a + b) (groups_on (content_of s))
      guids = under_next (encode_all encode_guid (content_of s).guids) (groups_on (content_of s)) count refl q

      count2 : {k d : ℕ} {zs : List ℕ} → k ≡ s.header.groups → WritesPrefix (encode_word32 k) (lent_from (back_from (back_from ws 12 xs) (12 + a) ys) (12 + a + b)) zs d
          → PartlyWritten (encode_tables (content_of s)) l (back_from (back_from (back_from ws 12 xs) (12 + a) ys) (12 + a + b) zs) (12 + a + b + d) (encode_all encode_group (content_of s).groups)
      count2 ek r = under_next (encode_word32 (length (content_of s).groups)) (encode_all encode_group (content_of s).groups) guids (ap encode_word32 (groups-count s ek)) r

pub zero_words-requires : goal.zero_words-requires
zero_words-requires c = omega (arith, tables-length (held c.args.m.now), c.requires.1)

pub slice_bounds-put_word-count : goal.slice_bounds-put_word-count
slice_bounds-put_word-count c = omega (arith, under-space (first (store_of c.args.m.now) c.args.out.now c.requires.1 c.zero_words.ensures))

pub slice_bounds-put_word-start : goal.slice_bounds-put_word-start
slice_bounds-put_word-start c = omega (arith, under-space (first (store_of c.args.m.now) c.args.out.now c.requires.1 c.zero_words.ensures))

pub put_word-at-requires : goal.put_word-at-requires
put_word-at-requires c =
    let it = held c.args.m.now in
    let u = first (store_of c.args.m.now) c.args.out.now c.requires.1 c.zero_words.ensures in
    omega (arith, under-lent (encode_word32 (length it.guids)) (guids_on it) u refl, word-length (length it.guids))

pub overflow_add-at : goal.overflow_add-at
overflow_add-at c =
    let u = count (store_of c.args.m.now) c.args.out.now c.requires.1 c.zero_words.ensures c.guids.ensures c.put_word-at.ensures in
    omega (arith, under-space u, under-long u)

pub slice_bounds-put_guids-count : goal.slice_bounds-put_guids-count
slice_bounds-put_guids-count c = omega (arith, under-space (count (store_of c.args.m.now) c.args.out.now c.requires.1 c.zero_words.ensures c.guids.ensures c.put_word-at.ensures))

pub slice_bounds-put_guids-start : goal.slice_bounds-put_guids-start
slice_bounds-put_guids-start c = omega (arith, under-space (count (store_of c.args.m.now) c.args.out.now c.requires.1 c.zero_words.ensures c.guids.ensures c.put_word-at.ensures))

pub put_guids-at-requires : goal.put_guids-at-requires
put_guids-at-requires c =
    let it = held c.args.m.now in
    let u = count (store_of c.args.m.now) c.args.out.now c.requires.1 c.zero_words.ensures c.guids.ensures c.put_word-at.ensures in
    (c.requires.0, under-lent (encode_all encode_guid it.guids) (groups_on it) u refl)

pub overflow_add-at-2 : goal.overflow_add-at-2
overflow_add-at-2 c =
    let u = guids (store_of c.args.m.now) c.args.out.now c.requires.1 c.zero_words.ensures c.guids.ensures c.put_word-at.ensures c.put_guids-at.ensures in
    omega (arith, under-space u, under-long u)

pub slice_bounds-put_word-count-2 : goal.slice_bounds-put_word-count-2
slice_bounds-put_word-count-2 c =
    let u = guids (store_of c.args.m.now) c.args.out.now c.requires.1 c.zero_words.ensures c.guids.ensures c.put_word-at.ensures c.put_guids-at.ensures in
    omega (arith, under-space u)

pub slice_bounds-put_word-start-2 : goal.slice_bounds-put_word-start-2
slice_bounds-put_word-start-2 c =
    let u = guids (store_of c.args.m.now) c.args.out.now c.requires.1 c.zero_words.ensures c.guids.ensures c.put_word-at.ensures c.put_guids-at.ensures in
    omega (arith, under-space u)

pub put_word-at-requires-2 : goal.put_word-at-requires-2
put_word-at-requires-2 c =
    let it = held c.args.m.now in
    let u = guids (store_of c.args.m.now) c.args.out.now c.requires.1 c.zero_words.ensures c.guids.ensures c.put_word-at.ensures c.put_guids-at.ensures in
    omega (arith, under-lent (encode_word32 (length it.groups)) (encode_all encode_group it.groups) u refl, word-length (length it.groups))

pub overflow_add-at-3 : goal.overflow_add-at-3
overflow_add-at-3 c =
    let u = count2 (store_of c.args.m.now) c.args.out.now c.requires.1 c.zero_words.ensures c.guids.ensures c.put_word-at.ensures c.put_guids-at.ensures c.groups.ensures c.put_word-at-2.ensures in
    omega (arith, under-space u, under-long u)

pub slice_bounds-put_groups-count : goal.slice_bounds-put_groups-count
slice_bounds-put_groups-count c =
    let u = count2 (store_of c.args.m.now) c.args.out.now c.requires.1 c.zero_words.ensures c.guids.ensures c.put_word-at.ensures c.put_guids-at.ensures c.groups.ensures c.put_word-at-2.ensures in
    omega (arith, under-space u)

pub slice_bounds-put_groups-start : goal.slice_bounds-put_groups-start
slice_bounds-put_groups-start c =
    let u = count2 (store_of c.args.m.now) c.args.out.now c.requires.1 c.zero_words.ensures c.guids.ensures c.put_word-at.ensures c.put_guids-at.ensures c.groups.ensures c.put_word-at-2.ensures in
    omega (arith, under-space u)

pub put_groups-requires : goal.put_groups-requires
put_groups-requires c =
    let u = count2 (store_of c.args.m.now) c.args.out.now c.requires.1 c.zero_words.ensures c.guids.ensures c.put_word-at.ensures c.put_guids-at.ensures c.groups.ensures c.put_word-at-2.ensures in
    (c.requires.0, last-lent u refl)

pub overflow_add-result : goal.overflow_add-result
overflow_add-result c =
    let u = count2 (store_of c.args.m.now) c.args.out.now c.requires.1 c.zero_words.ensures c.guids.ensures c.put_word-at.ensures c.put_guids-at.ensures c.groups.ensures c.put_word-at-2.ensures in
    omega (arith, c, last-space u refl c.put_groups.ensures)

pub returns : goal.returns
returns c =
    let u = count2 (store_of c.args.m.now) c.args.out.now c.requires.1 c.zero_words.ensures c.guids.ensures c.put_word-at.ensures c.put_guids-at.ensures c.groups.ensures c.put_word-at-2.ensures in
    last-put u refl c.put_groups.ensures
