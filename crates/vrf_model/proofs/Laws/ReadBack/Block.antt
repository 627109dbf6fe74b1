-- A written block is read back (document 01, Blocks): a fresh book with the same allowances then holds the same lists, and the counts are
-- `counts_of_block` of them.
use Rattle.std.specs.Prelude.{◌≡◌, refl, ℕ, ◌+◌, ◌-◌, ◌*◌, ◌/◌, ◌≤◌, length}
use Rattle.std.proofs.Common.{◌∙◌, add-zero, zero-add, arith, length-append, le-ltb, eq-eqb}
use mathlib.Core.List.{List, [], ◌++◌, append-nil}
use Rattle.vrf_bitio.specs.Reading.{position}
use Rattle.vrf_bitio.specs.Number.{encode_word32}
use Rattle.vrf_bitio.proofs.Laws.Number.{low_bytes-length}
use Rattle.vrf_model.specs.Book.{Allowances, Content, Increments, no_increment, add_increments, fresh, sum, group_fields, held_fields}
use Rattle.vrf_model.specs.Parser.{Parser, parsed, return, read, parsed_read, bind_parsed, ◌>>=◌, sum_from}
use Rattle.vrf_model.specs.Block.{BlockCounts, no_paths, by_table, block_guids, block_group, zero_word, count_up_to, block_end, block}
use Rattle.vrf_model.specs.Writer.{encode_guid, encode_group, encode_all, encode_tables, encode_book}
use Rattle.vrf_model.specs.Clash.{NoClash}
use Rattle.vrf_model.specs.Lawful.{Is32, WithinAllowances, Lawful}
use Rattle.vrf_model.specs.LateJoin.{counts_of_block}
use Rattle.vrf_model.proofs.Laws.Clash.{no-clash}
use Rattle.vrf_model.proofs.Laws.Held.{listed, groups-within}
use Rattle.vrf_model.proofs.Laws.Parser.{add_none, none-add, ParsesTo, parses-return, parses-last, parses-word, ParsesToAt, then_at}
use Rattle.vrf_model.proofs.Laws.ReadBack.Guids.{with_paths, guid_steps, guids-parse}
use Rattle.vrf_model.proofs.Laws.ReadBack.Groups.{schema_steps, groups-parse}

-- ---- lengths

word-length : (n : ℕ) → length (encode_word32 n) ≡ 4
unfolding encode_word32
word-length n = low_bytes-length 4 n

-- the word W of a written block
abbrev pub word_of : Content → ℕ
word_of c = length (encode_tables c) + 4 - 8

tables-length : (c : Content) → length (encode_tables c) ≡ 20 + length (encode_all encode_guid c.guids) + length (encode_all encode_group c.groups)
unfolding encode_tables
tables-length c = simp (length-append, word-length) (omega arith)

-- the end byte is W+8
frame : (c : Content) → word_of c + 8 ≡ length (encode_book c)
unfolding encode_book
frame c = simp (length-append, word-length) (omega (arith, tables-length c))

pub word-32 : (c : Content) → length (encode_book c) ≤ 268435456 → Is32 (word_of c)
word-32 c size = omega (arith, frame c)

-- the seven counts, as the reader computes them, are `counts_of_block`
counted : (c : Content) → ◌≡◌ {A = BlockCounts} (record { guids = length c.guids; groups = length c.groups; fields = sum group_fields c.groups; frame = word_of c + 8; indexed = 0; literals = 0 + length c.guids; resolved = 0 }) (counts_of_block c)
unfolding counts_of_block held_fields
counted c = rw (frame c, zero-add)

-- a block adds one to a generation for each group and for each GUID
unfoldable pub increments_of_block : Content → Increments
increments_of_block c = record { schema = length c.groups; guid = length c.guids; dropped = 0; replaced = 0; renamed = 0 }

-- the sum over the parts of a block
abbrev added_by : Content → Increments
added_by c =
    let quiet : Increments → Increments = add_increments no_increment in
    quiet (quiet (quiet (quiet (quiet (add_increments (guid_steps (length c.guids)) (quiet (schema_steps (length c.groups))))))))

added : (c : Content) → increments_of_block c ≡ added_by c
unfolding increments_of_block add_increments no_increment
added c = simp (zero-add, add-zero)

-- ---- the parts of a block

pub zero-parses : (at : ℕ) (c : Content) → ParsesTo (zero_word at) (encode_word32 0) tt c c no_increment
unfolding zero_word
zero-parses at c = rw (← none-add no_increment) (parses-last _ (parses-word 0 (omega arith) c) (parses-return tt c))

count-parses : (which top n : ℕ) (c : Content) → n ≤ top → Is32 n → ParsesTo (count_up_to which top) (encode_word32 n) n c c no_increment
unfolding count_up_to
count-parses which top n c h small = rw (← none-add no_increment) (parses-last _ (parses-word n small c) (rw (le-ltb top n h) (parses-return n c)))

-- at the end byte W+8 the block ends
end-parses : {A : Type 0} (pos w : ℕ) (f : ℕ → Parser A) {a : A} {c d : Content} {n : Increments} → pos / 8 ≡ w + 8 → ParsesToAt pos (f (w + 8)) [] a c d n → ParsesToAt pos (block_end w >>= f) [] a c d n
unfolding block_end read parsed_read position ◌>>=◌ bind_parsed return
end-parses pos w f e b = record { parse = λ tail t. rw (e, eq-eqb (w + 8) (w + 8) refl) (b.parse tail t) }

module _ {a : Allowances} (c : Content) (law : Lawful a c) where
  pub all-within : WithinAllowances (listed a c.guids c.groups)
  all-within = rw (← law.allowed) law.within

  pub guid-count : (d : Content) → ParsesTo (count_up_to 1 1000000) (encode_word32 (length c.guids)) (length c.guids) d d no_increment
  guid-count d = let few : length c.guids ≤ 1000000 = omega (arith, all-within.guids, law.tops.guids) in count-parses 1 1000000 _ d few (omega arith)

  pub group-count : (d : Content) → ParsesTo (count_up_to 2 100000) (encode_word32 (length c.groups)) (length c.groups) d d no_increment
  group-count d = let few : length c.groups ≤ 100000 = omega (arith, all-within.groups, law.tops.groups) in count-parses 2 100000 _ d few (omega arith)

  pub guids-part : a.guids ≤ a.literals → ParsesTo (block_guids by_table (length c.guids) 0 no_paths) (encode_all encode_guid c.guids) (with_paths no_paths c.guids) (fresh a) (listed a c.guids []) (guid_steps (length c.guids))
  unfolding fresh no_paths
  guids-part space = guids-parse a 0 no_paths [] c.guids law.guids law.guids_distinct (omega (arith, all-within.guids, space)) (groups-within a c.guids [] c.groups all-within)

  module _ (clear : NoClash c.groups) (size : length (encode_book c) ≤ 268435456) (space : a.guids ≤ a.literals) where
    -- the groups, the end byte and the counts
    groups-part : (pos : ℕ) → (pos + 8 * length (encode_all encode_group c.groups)) / 8 ≡ word_of c + 8 → (f : ℕ → ℕ → BlockCounts) → f (sum group_fields c.groups) (word_of c + 8) ≡ counts_of_block c
        → ParsesToAt pos (sum_from (length c.groups) 0 (λ _. block_group) >>= (λ fields. block_end (word_of c) >>= (λ end. return (f fields end)))) (encode_all encode_group c.groups) (counts_of_block c)
        (listed a c.guids []) (listed a c.guids c.groups) (schema_steps (length c.groups))
    groups-part pos e f counts =
        let h : List ℕ = encode_all encode_group c.groups in
        let fields : ℕ = sum group_fields c.groups in
        let d : Content = listed a c.guids c.groups in
        let groups = groups-parse a c.guids [] c.groups 0 law.groups law.indices_distinct ((no-clash c.groups).1 clear) all-within in
        let last : ParsesToAt (pos + 8 * length h) (return (f fields (word_of c + 8))) [] (counts_of_block c) d d no_increment = rw counts ((parses-return (counts_of_block c) d).at _) in
        rw (append-nil h, add_none (schema_steps (length c.groups))) at (then_at pos (λ n. block_end (word_of c) >>= (λ end. return (f n end))) groups (end-parses _ (word_of c) _ e last))

    block-parses : ParsesToAt 0 (block by_table) (encode_book c) (counts_of_block c) (fresh a) (listed a c.guids c.groups) (increments_of_block c)
    unfolding block encode_book encode_tables no_paths
    block-parses =
        rw (added c)
        (then_at 0 _ (parses-word (word_of c) (word-32 c size) _)
        (then_at _ _ (zero-parses 4 _)
        (then_at _ _ (zero-parses 8 _)
        (then_at _ _ (zero-parses 12 _)
        (then_at _ _ (guid-count _)
        (then_at _ _ (guids-part space)
        (then_at _ _ (group-count _)
        (groups-part _ (simp (length-append, word-length) (omega arith)) _ (counted c)))))))))

    pub read_back : (tail : List ℕ) → block by_table 0 (encode_book c ++ tail) (fresh a) no_increment ≡ parsed (counts_of_block c) (8 * length (encode_book c)) tail c (increments_of_block c)
    read_back tail =
        let all : listed a c.guids c.groups ≡ c = rw (← law.allowed) in
        block-parses.parse tail no_increment ∙ rw (all, zero-add, none-add (increments_of_block c))
