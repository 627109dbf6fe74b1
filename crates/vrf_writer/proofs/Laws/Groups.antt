-- The bytes of slots and groups, part by part. The proofs of `src/groups.rt` use these laws.
use Rattle.std.specs.Prelude.{◌≡◌, ℕ, zero, suc, ◌+◌, ◌<◌, ◌≤◌, false, List, [], ◌∷◌, ◌++◌, length, ◌==◌}
use Rattle.std.proofs.Math.Path.{refl, sym, ap}
use Rattle.std.proofs.Common.{◌∙◌, append_assoc, append-nil, add-zero, zero-add, arith}
use Rattle.std.proofs.Math.Option.{Option, none, some}
use borrow.Author.Tests.{eq-eqb, ne_eqb}
use Rattle.vrf_bitio.specs.Number.{encode_packed, encode_word32}
use Rattle.vrf_text.specs.Text.{encode_text}
use Rattle.vrf_model.specs.Book.{Slot, Group}
use Rattle.vrf_model.specs.Lookup.{place_or}
use Rattle.vrf_model.specs.Writer.{encode_slot, encode_slots, encode_group, encode_all}
use Rattle.vrf_table.specs.Table.{key, info, text, key_hit, find_key}
use Rattle.vrf_table.proofs.Laws.Chain.{last_below-last}
use Rattle.vrf_store.specs.UpTo.{up_to}
use Rattle.vrf_store.specs.Store.{Store, field_at, or_empty, slot_key, slot_by, group_by, content_of}
use Rattle.vrf_store.specs.Inner.Valid.{Valid}
use Rattle.vrf_store.specs.Inner.Fields.{field_found}
use Rattle.vrf_store.proofs.Laws.Memory.UpTo.{length-up_to}
use Rattle.vrf_store.proofs.Laws.Lookups.{group-at}
use Rattle.vrf_store.proofs.Laws.Fields.Row.{field-known}
use Rattle.vrf_writer.specs.Inner.Groups.{group_at, name_code, RowBelow}
use Rattle.vrf_writer.proofs.Laws.Prefix.{under-start, PartlyWritten}
use Rattle.vrf_writer.proofs.Laws.Each.{all-next}

-- a slot of a group, with all fields of the store
abbrev pub slot_at : Store → ℕ → ℕ → Slot
slot_at s place slot = slot_by s s.header.fields place slot

-- ---- slots

-- what follows the handle of a filled slot
abbrev pub checksum_on : ℕ → List ℕ → List ℕ
checksum_on checksum name = encode_word32 checksum ++ name_code name

module _ (t l : List ℕ) (fits : length (name_code t) ≤ length l) where
  pub name-start : PartlyWritten (name_code t) l l 0 (0 ∷ (encode_text t ++ encode_word32 0))
  unfolding name_code
  name-start = under-start refl fits

-- a slot that the field in row e fills
module _ (s : Store) (slot e : ℕ) (l : List ℕ) (fits : length (encode_slot slot (field_at s e)) ≤ length l) where
  pub field-start : PartlyWritten (encode_slot slot (field_at s e)) l l 0 (1 ∷ (encode_packed slot ++ checksum_on (info s.field_rows e) (text s.field_rows s.texts e)))
  unfolding encode_slot field_at name_code
  field-start = under-start refl fits

module _ (s : Store) (slot : ℕ) {o : Option ℕ} where
  pub slot-field : {e : ℕ} → o ≡ some e → encode_slot slot (field_at s e) ≡ encode_slot slot (or_empty (field_at s) o)
  unfolding or_empty
  slot-field q = ap (λ (x : Option ℕ). encode_slot slot (or_empty (field_at s) x)) (sym q)

  pub slot-none : o ≡ none → 0 ∷ [] ≡ encode_slot slot (or_empty (field_at s) o)
  unfolding or_empty encode_slot
  slot-none q = ap (λ (x : Option ℕ). encode_slot slot (or_empty (field_at s) x)) (sym q)

module _ {s : Store} (v : Valid s) where
  module _ (place slot : ℕ) {o : Option ℕ} (q : o ≡ field_found s (slot_key place slot)) where
    pub slot-code : encode_slot slot (or_empty (field_at s) o) ≡ encode_slot slot (slot_at s place slot)
    unfolding slot_by find_key
    slot-code = ap (λ (x : Option ℕ). encode_slot slot (or_empty (field_at s) x)) (q ∙ v.field_table.latest (slot_key place slot))

    pub slot-below : RowBelow s.header.fields o
    slot-below e h = (field-known v place slot (sym q ∙ h)).0

  -- a row with the key is the one that a search finds: no other row has the key
  pub row-found : {k e : ℕ} → e < s.header.fields → key s.field_rows e ≡ k → some e ≡ field_found s k
  unfolding find_key key_hit
  row-found {k} {e} h q =
      let others : (j : ℕ) → e < j → j < s.header.fields → (key s.field_rows j == k) ≡ false
      = λ j a b. ne_eqb (key s.field_rows j) k (λ z. omega (arith, a, v.field_table.distinct e j h b (q ∙ sym z))) in
      sym (v.field_table.latest k ∙ last_below-last (key_hit s.field_rows k) s.header.fields e h (eq-eqb (key s.field_rows e) k q) others)

-- ---- all slots of a group

slots-last : (l : List Slot) (a : Slot) (k : ℕ) → encode_slots k (l ++ (a ∷ [])) ≡ encode_slots k l ++ encode_slot (k + length l) a
unfolding encode_slots
slots-last [] a k = rw (append-nil (encode_slot k a), add-zero k)
slots-last (x ∷ l) a k =
    let next : k + 1 + length l ≡ k + suc (length l) = omega arith in
    rw (slots-last l a (k + 1), next) (sym (append_assoc (encode_slot k x) (encode_slots (k + 1) l) (encode_slot (k + suc (length l)) a)))

-- the bytes of all slots are those of the slot at each place, one after another
pub slots-code : (f : ℕ → Slot) (n : ℕ) → encode_all (λ (q : ℕ). encode_slot q (f q)) (up_to (λ (q : ℕ). q) n) ≡ encode_slots 0 (up_to f n)
unfolding up_to encode_all encode_slots
slots-code f zero = refl
slots-code f (suc n) =
    let place : 0 + length (up_to f n) ≡ n = zero-add (length (up_to f n)) ∙ length-up_to f n in
    all-next (λ (q : ℕ). encode_slot q (f q)) (λ (q : ℕ). q) n
    ∙ rw (slots-code f n) (sym (slots-last (up_to f n) (f n) 0 ∙ rw place))

-- what the answers about the group at a place say of it
module _ (s : Store) (place : ℕ) (h : place < s.header.groups) where
  pub path-is : {t : List ℕ} → t ≡ place_or (λ (g : Group). g.path) [] (content_of s).groups place → t ≡ (group_at s place).path
  path-is e = e ∙ group-at s [] place (λ (g : Group). g.path) h

  pub path-short : Valid s → {t : List ℕ} → t ≡ place_or (λ (g : Group). g.path) [] (content_of s).groups place → length t ≤ 4096
  unfolding group_by
  path-short v e = rw (path-is e) (v.group_table.texts place h).is_text.short

  pub index-is : {n : ℕ} → n ≡ place_or (λ (g : Group). g.index) 0 (content_of s).groups place → n ≡ (group_at s place).index
  index-is e = e ∙ group-at s 0 place (λ (g : Group). g.index) h

  pub slots-are : {n : ℕ} → n ≡ place_or (λ (g : Group). length g.slots) 0 (content_of s).groups place → n ≡ length (group_at s place).slots
  slots-are e = e ∙ group-at s 0 place (λ (g : Group). length g.slots) h

  slots-count : {n : ℕ} → n ≡ place_or (λ (g : Group). length g.slots) 0 (content_of s).groups place → n ≡ info s.group_rows place
  unfolding group_by
  slots-count e = slots-are e ∙ length-up_to (slot_at s place) (info s.group_rows place)

  pub group-slots-code : {n : ℕ} → n ≡ place_or (λ (g : Group). length g.slots) 0 (content_of s).groups place → encode_all (λ (q : ℕ). encode_slot q (slot_at s place q)) (up_to (λ (q : ℕ). q) n) ≡ encode_slots 0 (group_at s place).slots
  unfolding group_by
  group-slots-code {n} e = slots-code (slot_at s place) n ∙ ap (λ (k : ℕ). encode_slots 0 (up_to (slot_at s place) k)) (slots-count e)

-- ---- groups

-- what follows the index, and what follows the path
abbrev pub slots_on : Group → List ℕ
slots_on g = encode_packed (length g.slots) ++ encode_slots 0 g.slots

abbrev pub index_on : Group → List ℕ
index_on g = encode_packed g.index ++ slots_on g

pub group-code : (g : Group) → encode_group g ≡ encode_text g.path ++ index_on g
unfolding encode_group
group-code g = refl

-- all groups
pub groups-code : (s : Store) {n : ℕ} → n ≡ s.header.groups → encode_all encode_group (up_to (group_at s) n) ≡ encode_all encode_group (content_of s).groups
unfolding content_of
groups-code s e = ap (λ (k : ℕ). encode_all encode_group (up_to (group_at s) k)) e
