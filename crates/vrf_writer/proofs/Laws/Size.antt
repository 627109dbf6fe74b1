-- The length of a block is the sum that `src/size.rt` computes, and `most` is an upper bound of it. Both fit into 64 bits.
use Rattle.std.specs.Prelude.{◌≡◌, ℕ, zero, suc, ◌+◌, ◌*◌, ◌/◌, ◌%◌, ◌^◌, ◌<◌, ◌≤◌, List, [], ◌∷◌, ◌++◌, length, drop, ◌≢◌, refl}
use Rattle.std.proofs.Common.{sym, ◌∙◌, mul-suc, length-take}
use Rattle.std.proofs.Math.Path.{ap}
use native.Mathlib.Omega.{arith}
use Rattle.std.proofs.Math.ListN.{length-append}
use Rattle.vrf_bitio.specs.Number.{encode_packed, encode_word32}
use Rattle.vrf_text.specs.Text.{encode_text}
use Rattle.vrf_words.specs.Words.{part}
use Rattle.vrf_model.specs.Book.{Slot, empty, filled, Group, Guid}
use Rattle.vrf_model.specs.Writer.{encode_slot, encode_slots, encode_guid, encode_group, encode_all, encode_book}
use Rattle.vrf_table.specs.Chain.{last_below}
use Rattle.vrf_table.specs.Table.{key, at, len, info, text}
use Rattle.vrf_store.specs.UpTo.{sum_below, up_to}
use Rattle.vrf_store.specs.Store.{Store, field_at, guid_at, or_empty, slot_by, group_by, content_of}
use Rattle.vrf_store.specs.Check.{text_sum}
use Rattle.vrf_store.specs.Inner.Valid.{Valid}
use Rattle.vrf_store.proofs.Laws.Memory.UpTo.{length-up_to, sum_below-ext, sum_below-set}
use Rattle.vrf_store.proofs.Laws.Check.Steps.{sum-next}
use Rattle.vrf_store.proofs.Laws.Check.Accepted.{sum_below-nil, sum_below-one, sum_below-plus, slot_by-other, slot_by-before, slot_by-after}
use Rattle.vrf_writer.specs.Inner.Rows.{GuidRow, guid_in}
use Rattle.vrf_writer.specs.Inner.Groups.{group_at}
use Rattle.vrf_writer.specs.Inner.Size.{beyond, group_bytes, field_bytes}
use Rattle.vrf_writer.proofs.Laws.Numbers.{word-length}
use Rattle.vrf_writer.proofs.Laws.Each.{all-next}
use Rattle.vrf_writer.proofs.Laws.Rows.{guid-good}
use Rattle.vrf_writer.proofs.Laws.Guids.{outer_on, path_on}
use Rattle.vrf_writer.proofs.Laws.Groups.{slot_at, slots-code}
use Rattle.vrf_writer.proofs.Laws.Block.{block-length}
use Rattle.vrf_writer.proofs.Laws.Lengths.{packed-short, text-short}

-- an upper bound of a block's length: GUID records and fields count with the most bytes that each can have beside its text, and all texts
-- with the bytes of all texts held
abbrev pub most : Store → ℕ
most s = 24 + (17 * s.header.guids + 19 * s.header.fields) + s.header.held + sum_below (λ g. group_bytes (group_at s g)) s.header.groups

pub all-length : {A : Type 0} (f : A → List ℕ) (g : ℕ → A) (n : ℕ) → length (encode_all f (up_to g n)) ≡ sum_below (λ e. length (f (g e))) n
unfolding sum_below up_to encode_all
all-length f g zero = refl
all-length f g (suc n) = ap length (all-next f g n) ∙ length-append (encode_all f (up_to g n)) (f (g n)) ∙ rw (all-length f g n)

-- ---- slots

slot-length : (q : ℕ) (x : Slot) → length (encode_slot q x) ≡ 1 + beyond q x
unfolding encode_slot beyond
slot-length q empty = refl
slot-length q (filled checksum name) = omega (
  arith,
  length-append (encode_packed q) (encode_word32 checksum ++ (0 ∷ (encode_text name ++ encode_word32 0))),
  length-append (encode_word32 checksum) (0 ∷ (encode_text name ++ encode_word32 0)),
  length-append (encode_text name) (encode_word32 0),
  word-length checksum,
  word-length 0,
)

slots_length : (f : ℕ → Slot) (n : ℕ) → length (encode_slots 0 (up_to f n)) ≡ n + sum_below (λ q. beyond q (f q)) n
slots_length f n =
    ap length (sym (slots-code f n))
    ∙ all-length (λ (q : ℕ). encode_slot q (f q)) (λ (q : ℕ). q) n
    ∙ sum_below-ext (λ q. length (encode_slot q (f q))) (λ q. 1 + beyond q (f q)) n (λ q h. slot-length q (f q))
    ∙ sum_below-plus (λ q. 1) (λ q. beyond q (f q)) n
    ∙ ap (λ (k : ℕ). k + sum_below (λ q. beyond q (f q)) n) (sum_below-one n)

-- ---- the bytes that the fields add to the slots of all groups

module _ {s : Store} (v : Valid s) where
  -- the group place and the slot of field n
  abbrev place : ℕ → ℕ
  place n = key s.field_rows n / 65536

  abbrev slot : ℕ → ℕ
  slot n = key s.field_rows n % 65536

  -- the bytes that the first n fields add to the slots of group g
  abbrev load : ℕ → ℕ → ℕ
  load n g = sum_below (λ q. beyond q (slot_by s n g q)) (info s.group_rows g)

  load_nil : (g : ℕ) → load 0 g ≡ 0
  unfolding slot_by last_below or_empty beyond
  load_nil g = sum_below-nil _ (info s.group_rows g) (λ q. refl)

  module _ (n : ℕ) (h : n < s.header.fields) where
    load-other : (g : ℕ) → g < s.header.groups → (g ≢ place n) → load n g ≡ load (suc n) g
    load-other g k ne = sum_below-ext _ _ (info s.group_rows g) (λ q l. ap (beyond q) (slot_by-other v n h g q k l (λ e. ne e.0)))

    none_before : beyond (slot n) (slot_by s n (place n) (slot n)) ≡ 0
    unfolding beyond
    none_before = ap (beyond (slot n)) (slot_by-before v n h)

    load-own : load (suc n) (place n) ≡ load n (place n) + field_bytes s n
    load-own =
        let good = (v.fields n h).0 in
        let others : (q : ℕ) → q < info s.group_rows (place n) → (q ≢ slot n) → beyond q (slot_by s n (place n) q) ≡ beyond q (slot_by s (suc n) (place n) q) = λ q l ne. ap (beyond q) (slot_by-other v n h (place n) q good.place l (λ e. ne e.1)) in
        let step = sum_below-set _ _ (info s.group_rows (place n)) (slot n) good.slot others in
        omega (arith, step, none_before, ap (beyond (slot n)) (slot_by-after v n h))

  loads : (n : ℕ) → n ≤ s.header.fields → sum_below (load n) s.header.groups ≡ sum_below (field_bytes s) n
  unfolding sum_below
  loads zero h = sum_below-nil (load 0) s.header.groups load_nil
  loads (suc n) h =
      let good = (v.fields n h).0 in
      omega (arith, loads n (omega arith), load-own n h, sum_below-set (load n) (load (suc n)) s.header.groups (place n) good.place (load-other n h))

-- ---- groups, and the whole block

module _ {s : Store} (v : Valid s) where
  group-length : (g : ℕ) → length (encode_group (group_at s g)) ≡ group_bytes (group_at s g) + load v s.header.fields g
  unfolding encode_group group_by group_bytes
  group-length g =
      let slots : List Slot = up_to (slot_at s g) (info s.group_rows g) in
      let count : List ℕ = encode_packed (length slots) in
      let index : List ℕ = encode_packed (key s.group_rows g) in
      omega (
        arith,
        length-append (encode_text (text s.group_rows s.texts g)) (index ++ (count ++ encode_slots 0 slots)),
        length-append index (count ++ encode_slots 0 slots),
        length-append count (encode_slots 0 slots),
        slots_length (slot_at s g) (info s.group_rows g),
        length-up_to (slot_at s g) (info s.group_rows g),
      )

  groups-length : length (encode_all encode_group (content_of s).groups) ≡ sum_below (λ g. group_bytes (group_at s g)) s.header.groups + sum_below (field_bytes s) s.header.fields
  unfolding content_of
  groups-length =
      all-length encode_group (group_at s) s.header.groups
      ∙ sum_below-ext _ _ s.header.groups (λ g h. group-length g)
      ∙ sum_below-plus (λ g. group_bytes (group_at s g)) (load v s.header.fields) s.header.groups
      ∙ ap (λ (k : ℕ). sum_below (λ g. group_bytes (group_at s g)) s.header.groups + k) (loads v s.header.fields (omega arith))

  pub block-bytes : length (encode_book (content_of s)) ≡ 24 + length (encode_all encode_guid (content_of s).guids) + sum_below (λ g. group_bytes (group_at s g)) s.header.groups + sum_below (field_bytes s) s.header.fields
  block-bytes = omega (arith, block-length (content_of s), groups-length)

-- ---- the sums fit into 64 bits

sum-within : (f g : ℕ → ℕ) (most n : ℕ) → ((e : ℕ) → e < n → f e ≤ most + g e) → sum_below f n ≤ most * n + sum_below g n
unfolding sum_below
sum-within f g most zero h = omega arith
sum-within f g most (suc n) h = rw (mul-suc most n) (omega (arith, sum-within f g most n (λ e k. h e (omega (arith, k))), h n (omega arith)))

sum-short : (f : ℕ → ℕ) (most n : ℕ) → ((e : ℕ) → e < n → f e ≤ most) → sum_below f n ≤ most * n
sum-short f most n h = omega (arith, sum-within f (λ e. 0) most n (λ e k. omega (arith, h e k)), sum_below-nil (λ e. 0) n (λ e. refl))

-- a loop over n numbers has added up the first i of them
pub record Summed (f : ℕ → ℕ) (n sum i : ℕ) : Type 0 where
  pub within : i ≤ n
  pub total : sum ≡ sum_below f i

pub summed-start : {f : ℕ → ℕ} {n : ℕ} → Summed f n 0 0
unfolding sum_below
summed-start = record { within = omega arith; total = refl }

module _ {f : ℕ → ℕ} {n sum i : ℕ} (s : Summed f n sum i) where
  pub summed-step : i < n → {more : ℕ} → more ≡ sum + f i → Summed f n more (i + 1)
  summed-step h e = record { within = omega (arith, h); total = omega (arith, e, s.total, sum-next f i) }

  pub summed-end : n ≤ i → {all : ℕ} → n ≡ all → sum ≡ sum_below f all
  summed-end h {all} e = let same : i ≡ all = omega (arith, h, s.within, e) in s.total ∙ ap (sum_below f) same

  pub summed-short : (most : ℕ) → ((e : ℕ) → e < n → f e ≤ most) → sum ≤ most * i
  summed-short most h = omega (arith, s.total, sum-short f most i (λ e k. h e (omega (arith, k, s.within))))

  -- with the next number too
  pub summed-next : (most : ℕ) → ((e : ℕ) → e < n → f e ≤ most) → i < n → sum + f i ≤ most * (i + 1)
  summed-next most h l = omega (arith, s.total, sum-next f i, sum-short f most (i + 1) (λ e k. h e (omega (arith, k, l))))

module _ (r : Guid) where
  pub guid-length : length (encode_guid r) ≡ length (encode_packed r.guid) + length (encode_packed r.outer) + 2 + length (encode_text r.path)
  unfolding encode_guid
  guid-length = omega (
    arith,
    length-append (encode_packed r.guid) (outer_on r),
    length-append (encode_packed r.outer) (1 ∷ path_on r),
    length-append (encode_text r.path) (0 ∷ []),
  )

  pub guid-within : length (encode_guid r) ≤ 17 + length r.path
  guid-within = omega (arith, guid-length, packed-short r.guid, packed-short r.outer, text-short r.path)

pub guid-short : {r x : List ℕ} {i : ℕ} → GuidRow r x i → length (encode_guid (guid_in r x i)) ≤ 4113
guid-short {r} {x} {i} g = omega (arith, guid-within (guid_in r x i), g.texts.short)

module _ {s : Store} (v : Valid s) where
  -- the records that a loop has added up
  pub guids-short : {r x : List ℕ} {n sum i : ℕ} → r ≡ s.guid_rows → x ≡ s.texts → n ≡ s.header.guids → Summed (λ (e : ℕ). length (encode_guid (guid_in r x e))) n sum i → sum ≤ 4113 * i
  guids-short er ex en q = summed-short q 4113 (λ e k. guid-short (guid-good v ex er (omega (arith, k, en))))

  pub group-short : (g : ℕ) → g < s.header.groups → group_bytes (group_at s g) ≤ 69647
  unfolding group_bytes group_by
  group-short g h =
      let r : Group = group_at s g in
      let path : length r.path ≤ 4096 = (v.group_table.texts g h).is_text.short in
      let few : length r.slots ≤ 65536 = rw (length-up_to (slot_at s g) (info s.group_rows g)) (v.groups g h).1 in
      omega (arith, packed-short r.index, packed-short (length r.slots), text-short r.path, path, few)

  pub groups-short : sum_below (λ g. group_bytes (group_at s g)) s.header.groups ≤ 69647 * s.header.groups
  groups-short = sum-short (λ g. group_bytes (group_at s g)) 69647 s.header.groups group-short

  field-within : (e : ℕ) → field_bytes s e ≤ 19 + length (text s.field_rows s.texts e)
  unfolding beyond field_at
  field-within e = omega (arith, packed-short (key s.field_rows e % 65536), text-short (text s.field_rows s.texts e))

  pub field-short : (e : ℕ) → e < s.header.fields → field_bytes s e ≤ 4115
  field-short e h = omega (arith, field-within e, (v.field_table.texts e h).is_text.short)

-- ---- the upper bound

text-most : (r x : List ℕ) (e : ℕ) → length (text r x e) ≤ len r e
unfolding text part
text-most r x e = omega (arith, length-take (len r e) (drop (at r e) x))

module _ {s : Store} (v : Valid s) where
  guid-most : (e : ℕ) → length (encode_guid (guid_at s e)) ≤ 17 + len s.guid_rows e
  unfolding guid_at
  guid-most e = omega (arith, guid-within (guid_at s e), text-most s.guid_rows s.texts e)

  pub block-most : length (encode_book (content_of s)) ≤ most s
  unfolding content_of text_sum
  block-most = omega (
    arith,
    block-bytes v,
    all-length encode_guid (guid_at s) s.header.guids,
    sum-within (λ e. length (encode_guid (guid_at s e))) (len s.guid_rows) 17 s.header.guids (λ e h. guid-most e),
    sum-within (field_bytes s) (len s.field_rows) 19 s.header.fields (λ e h. omega (arith, field-within v e, text-most s.field_rows s.texts e)),
    v.total,
  )

  pub most-short : most s < 2 ^ 64
  most-short = omega (arith, groups-short v, v.header.tops, v.header.guids, v.header.groups, v.header.fields, v.header.held)

  pub block-short : length (encode_book (content_of s)) < 2 ^ 64
  block-short = omega (arith, block-most, most-short)
