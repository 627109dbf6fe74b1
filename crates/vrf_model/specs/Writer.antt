-- Writing a block (document 01, Blocks), and the writer's refusals (Where each check stands).
use Rattle.std.specs.Prelude.{Bool, true, false, cond, ◌||◌, List, [], ◌∷◌, ◌++◌, ℕ, ◌+◌, ◌-◌, ltb, length}
use Rattle.std.proofs.Math.Option.{Option, none, some}
use Rattle.vrf_bitio.specs.Number.{encode_packed, encode_word32}
use Rattle.vrf_text.specs.Text.{encode_text}
use Rattle.vrf_path.specs.Keys.{has_key}
use Rattle.vrf_model.specs.Book.{Guid, Slot, empty, filled, Group, Content}
use Rattle.vrf_model.specs.Lookup.{next_place}

-- GUID and outer packed, outer 0 for none, kind 1, text, flags 0
unfoldable pub encode_guid : Guid → List ℕ
encode_guid r = encode_packed r.guid ++ (encode_packed r.outer ++ (1 ∷ (encode_text r.path ++ (0 ∷ []))))

-- byte 0 for an empty slot; byte 1 for a filled slot, then its place as handle, checksum, name kind 0 with number 0
unfoldable pub encode_slot : ℕ → Slot → List ℕ
encode_slot place empty = 0 ∷ []
encode_slot place (filled checksum name) = 1 ∷ (encode_packed place ++ (encode_word32 checksum ++ (0 ∷ (encode_text name ++ encode_word32 0))))

unfoldable pub encode_slots : ℕ → List Slot → List ℕ
encode_slots place [] = []
encode_slots place (s ∷ ss) = encode_slot place s ++ encode_slots (place + 1) ss

-- path text, index packed, slots packed, then the slots
unfoldable pub encode_group : Group → List ℕ
encode_group g = encode_text g.path ++ (encode_packed g.index ++ (encode_packed (length g.slots) ++ encode_slots 0 g.slots))

unfoldable pub encode_all : {A : Type 0} → (A → List ℕ) → List A → List ℕ
encode_all f [] = []
encode_all f (a ∷ l) = f a ++ encode_all f l

-- what follows the word W: three zero words, GUID count, GUIDs in book order, group count, groups in list order
unfoldable pub encode_tables : Content → List ℕ
encode_tables c =
    encode_word32 0 ++ (encode_word32 0 ++ (encode_word32 0
    ++ (encode_word32 (length c.guids) ++ (encode_all encode_guid c.guids
    ++ (encode_word32 (length c.groups) ++ encode_all encode_group c.groups)))))

-- the block; its end byte, W+8, is its length
unfoldable pub encode_book : Content → List ℕ
encode_book c = encode_word32 (length (encode_tables c) + 4 - 8) ++ encode_tables c

-- ---- the writer's refusals

-- whether a path is a key of one of the groups
unfoldable pub is_key_of : List ℕ → List Group → Bool
is_key_of path [] = false
is_key_of path (g ∷ gs) = has_key g.path path || is_key_of path gs

-- place 0 if the head is such a group, otherwise a later place
unfoldable pub here_or_later : Bool → Option ℕ → Option ℕ
here_or_later true later = some 0
here_or_later false later = next_place later

-- the first group of the second list whose path is a key of an earlier group; the first list has the groups before it
unfoldable pub first_clash : List Group → List Group → Option ℕ
first_clash earlier [] = none
first_clash earlier (g ∷ gs) = here_or_later (is_key_of g.path earlier) (first_clash (earlier ++ (g ∷ [])) gs)

-- the length, or a refusal's number, a and b
pub data Written : Type 0 where
  written : ℕ → Written
  not_written : ℕ → ℕ → ℕ → Written

-- 44 comes before 45; 45: block longer than the buffer or 268,435,456, with its length
unfoldable pub written_into : ℕ → ℕ → Option ℕ → Written
written_into capacity size (some place) = not_written 44 place 0
written_into capacity size none = cond (ltb capacity size || ltb 268435456 size) (not_written 45 size 0) (written size)

-- what the writer answers for a buffer of capacity bytes
unfoldable pub write : ℕ → Content → Written
write capacity c = written_into capacity (length (encode_book c)) (first_clash [] c.groups)
