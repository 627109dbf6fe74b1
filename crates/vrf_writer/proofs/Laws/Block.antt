-- A block is its parts, written one after another. The proofs of `put_tables` and `put_block` use these laws.
use Rattle.std.specs.Prelude.{◌≡◌, ℕ, ◌+◌, ◌-◌, ◌≤◌, List, ◌++◌, length, replicate}
use Rattle.std.proofs.Math.Path.{refl, sym, ap}
use Rattle.std.proofs.Common.{◌∙◌, arith, length-drop}
use Rattle.std.proofs.Math.ListN.{length-append}
use Rattle.vrf_bitio.specs.Number.{low_bytes, encode_word32}
use Rattle.vrf_bitio.specs.Pasted.{pasted}
use Rattle.vrf_bitio.proofs.Laws.Pasted.{pasted_length}
use Rattle.vrf_model.specs.Book.{Content}
use Rattle.vrf_model.specs.Writer.{encode_guid, encode_group, encode_all, encode_tables, encode_book}
use Rattle.vrf_store.specs.Store.{Store, guid_at, content_of}
use Rattle.vrf_store.proofs.Laws.Memory.UpTo.{length-up_to}
use Rattle.vrf_store.proofs.Laws.Check.Steps.{rest_part}
use Rattle.vrf_writer.specs.Inner.Prefix.{WritesPrefix}
use Rattle.vrf_writer.specs.Inner.Groups.{group_at}
use Rattle.vrf_writer.proofs.Laws.Prefix.{back, pasted-last, under-start, under-pasted, lent_from, back_from, PartlyWritten}
use Rattle.vrf_writer.proofs.Laws.Numbers.{word-length}

-- what follows the GUID records, and what follows the GUID count
abbrev pub groups_on : Content → List ℕ
groups_on c = encode_word32 (length c.groups) ++ encode_all encode_group c.groups

abbrev pub guids_on : Content → List ℕ
guids_on c = encode_all encode_guid c.guids ++ groups_on c

module _ (c : Content) where
  tables-code : encode_tables c ≡ replicate 12 0 ++ (encode_word32 (length c.guids) ++ guids_on c)
  unfolding encode_tables encode_word32 low_bytes
  tables-code = refl

  pub tables-length : length (encode_tables c) ≡ 20 + length (encode_all encode_guid c.guids) + length (encode_all encode_group c.groups)
  tables-length = omega (
    arith,
    ap length tables-code,
    length-append (encode_word32 (length c.guids)) (guids_on c),
    length-append (encode_all encode_guid c.guids) (groups_on c),
    length-append (encode_word32 (length c.groups)) (encode_all encode_group c.groups),
    word-length (length c.guids),
    word-length (length c.groups),
  )

  module _ (l : List ℕ) (fits : length (encode_tables c) ≤ length l) where
    pub zeros-put : {xs : List ℕ} → xs ≡ pasted l 0 (replicate 12 0) → PartlyWritten (encode_tables c) l xs 12 (encode_word32 (length c.guids) ++ guids_on c)
    zeros-put e = under-pasted (replicate 12 0) (encode_word32 (length c.guids) ++ guids_on c) (under-start tables-code fits) e

-- the counts in a store's header are the lengths of its lists
module _ (s : Store) where
  pub guids-count : {n : ℕ} → n ≡ s.header.guids → n ≡ length (content_of s).guids
  unfolding content_of
  guids-count e = e ∙ sym (length-up_to (guid_at s) s.header.guids)

  pub groups-count : {n : ℕ} → n ≡ s.header.groups → n ≡ length (content_of s).groups
  unfolding content_of
  groups-count e = e ∙ sym (length-up_to (group_at s) s.header.groups)

-- the first word is the block's length minus 8
module _ (c : Content) where
  block-four : length (encode_book c) ≡ 4 + length (encode_tables c)
  unfolding encode_book
  block-four = omega (arith, length-append (encode_word32 (length (encode_tables c) + 4 - 8)) (encode_tables c), word-length (length (encode_tables c) + 4 - 8))

  pub block-length : length (encode_book c) ≡ 24 + length (encode_all encode_guid c.guids) + length (encode_all encode_group c.groups)
  block-length = omega (arith, block-four, tables-length c)

  -- the first word is written last, when the tables after it are written
  module _ (l : List ℕ) (fits : length (encode_book c) ≤ length l) where
    pub tables-lent : length (encode_tables c) ≤ length (lent_from l 4)
    tables-lent = rw (rest_part l 4, length-drop 4 l) (omega (arith, fits, block-four))

    module _ {ys : List ℕ} {n : ℕ} (p : WritesPrefix (encode_tables c) (lent_from l 4) ys n) where
      pub tables-long : length (back_from l 4 ys) ≡ length l
      tables-long = rw (back l (encode_tables c) 4 p.bytes) (pasted_length (encode_tables c) l 4 (omega (arith, fits, block-four)))

      pub tables-count : (20 ≤ n) × (n + 4 ≡ length (encode_book c))
      tables-count = (omega (arith, p.count, tables-length c), omega (arith, p.count, block-four))

      pub word-last : {zs : List ℕ} {a : ℕ} → WritesPrefix (encode_word32 (n - 4)) (back_from l 4 ys) zs a → WritesPrefix (encode_book c) l zs (n + 4)
      unfolding encode_book
      word-last {zs} w =
          let word : List ℕ = encode_word32 (n - 4) in
          let four : length word ≡ 4 = word-length (n - 4) in
          let same : n - 4 ≡ length (encode_tables c) + 4 - 8 = omega (arith, p.count) in
          let put_first : zs ≡ pasted (pasted l 4 (encode_tables c)) 0 word = rw (back l (encode_tables c) 4 p.bytes) at w.bytes in
          let all : pasted (pasted l 4 (encode_tables c)) 0 word ≡ pasted l 0 (word ++ encode_tables c) = rw four at (pasted-last l word (encode_tables c) (omega (arith, four, fits, block-four))) in
          record { bytes = put_first ∙ all ∙ ap (λ (k : ℕ). pasted l 0 (encode_word32 k ++ encode_tables c)) same; count = tables-count.1 }
