-- Lookups (document 01, The book). Each depends on the GUID list or the group list alone.
use Rattle.std.specs.Prelude.{Bool, true, false, cond, List, [], ◌∷◌, ◌++◌, ℕ, suc, eqb, length, get_or}
use Rattle.std.proofs.Math.Option.{Option, none, some}
use Rattle.vrf_bitio.specs.Ascii.{ascii}
use Rattle.vrf_path.specs.Text.{same}
use Rattle.vrf_path.specs.Keys.{has_key, has_separator}
use Rattle.vrf_path.specs.Leaf.{leaf}
use Rattle.vrf_path.specs.Toggle.{class_net_cache_keys}
use Rattle.vrf_path.specs.Stems.{stems, stem_leaves, name_leaves}
use Rattle.vrf_model.specs.Book.{Guid, Group, Slot, empty, filled}

-- ---- places

-- place i of the rest of a list is place i + 1 of the list
unfoldable pub next_place : Option ℕ → Option ℕ
next_place none = none
next_place (some i) = some (suc i)

-- the place found in the rest of a list; if there is none, place 0 where the test holds of the head
unfoldable pub rest_or_head : Bool → Option ℕ → Option ℕ
rest_or_head b (some i) = some (suc i)
rest_or_head true none = some 0
rest_or_head false none = none

-- the last place of a list at which a test holds
unfoldable pub last_place : {A : Type 0} → (A → Bool) → List A → Option ℕ
last_place p [] = none
last_place p (a ∷ l) = rest_or_head (p a) (last_place p l)

-- the places of a list at which a test holds, in order; its first element has place i
unfoldable pub places_from : {A : Type 0} → ℕ → (A → Bool) → List A → List ℕ
places_from i p [] = []
places_from i p (a ∷ l) = cond (p a) (i ∷ places_from (suc i) p l) (places_from (suc i) p l)

-- f of the element at place i; d if there is no such place
unfoldable pub place_or : {A B : Type 0} → (A → B) → B → List A → ℕ → B
place_or f d [] i = d
place_or f d (a ∷ l) ℕ.zero = f a
place_or f d (a ∷ l) (suc i) = place_or f d l i

-- path lookup gives the last group having that key
unfoldable pub path_place : List ℕ → List Group → Option ℕ
path_place key groups = last_place (λ g. has_key g.path key) groups

-- the group with a path-name index; indices are distinct
unfoldable pub index_place : ℕ → List Group → Option ℕ
index_place index groups = last_place (λ g. eqb g.index index) groups

-- the record of a GUID; GUIDs are distinct
unfoldable pub guid_place : ℕ → List Guid → Option ℕ
guid_place guid guids = last_place (λ r. eqb r.guid guid) guids

-- ---- path, index, slot count and slots at a group place

-- path, index and slot count at a group place; nothing there is empty or 0
abbrev pub path_at : List Group → ℕ → List ℕ
path_at groups place = place_or (λ g. g.path) [] groups place

abbrev pub index_at : List Group → ℕ → ℕ
index_at groups place = place_or (λ g. g.index) 0 groups place

abbrev pub slots_at : List Group → ℕ → ℕ
slots_at groups place = place_or (λ g. length g.slots) 0 groups place

-- `get_field` answers a checksum, or absent
unfoldable pub slot_checksum : Slot → Option ℕ
slot_checksum empty = none
slot_checksum (filled c n) = some c

-- a slot's name; nothing there is empty
unfoldable pub slot_name : Slot → List ℕ
slot_name empty = []
slot_name (filled c n) = n

-- a slot of the group at a place; empty where there is no such group or no such slot
unfoldable pub slot_at : List Group → ℕ → ℕ → Slot
slot_at groups place slot = place_or (λ g. get_or g.slots slot empty) empty groups place

-- ---- claims

-- a leaf's claim is the group if one group has it, ambiguous if several do, else absent
pub data Claim : Type 0 where
  absent : Claim
  ambiguous : Claim
  claimed : ℕ → Claim

unfoldable pub leaf_is : List ℕ → Option (List ℕ) → Bool
leaf_is l none = false
leaf_is l (some t) = same t l

-- whether the group's path has the leaf l
unfoldable pub has_leaf : List ℕ → Group → Bool
has_leaf l g = leaf_is l (leaf g.path)

-- the claim, from the places of the groups that have the leaf
unfoldable pub claim_of_places : List ℕ → Claim
claim_of_places [] = absent
claim_of_places (i ∷ []) = claimed i
claim_of_places (i ∷ j ∷ more) = ambiguous

unfoldable pub leaf_claim : List ℕ → List Group → Claim
leaf_claim l groups = claim_of_places (places_from 0 (has_leaf l) groups)

-- ---- resolutions

-- a claimed leaf answers its group, an absent one what the next leaves answer; an ambiguous claim ends either resolution
unfoldable pub claim_or_next : Claim → Option ℕ → Option ℕ
claim_or_next absent next = next
claim_or_next ambiguous next = none
claim_or_next (claimed i) next = some i

unfoldable pub first_claim : List Group → List (List ℕ) → Option ℕ
first_claim groups [] = none
first_claim groups (l ∷ ls) = claim_or_next (leaf_claim l groups) (first_claim groups ls)

unfoldable pub stems_leaves : List (List ℕ) → List (List ℕ)
stems_leaves [] = []
stems_leaves (s ∷ ss) = stem_leaves s ++ stems_leaves ss

-- `unique_leaf_match` tries name, name+`Component`, name+`_C`; a name with `/ . :` gets none
unfoldable pub unique_leaf_match : List ℕ → List Group → Option ℕ
unique_leaf_match name groups = cond (has_separator name) none (first_claim groups (name_leaves name))

-- `resolve_cnc_for_instance_name`, as in resolve.rs: the leaves of each stem of the name in turn; a name with `/ . :` gets none
unfoldable pub resolve_cnc : List ℕ → List Group → Option ℕ
resolve_cnc name groups = cond (has_separator name) none (first_claim groups (stems_leaves (stems name)))

-- the first key that finds a group decides
unfoldable pub found_or_next : Option ℕ → Option ℕ → Option ℕ
found_or_next none next = next
found_or_next (some i) next = some i

unfoldable pub first_path : List Group → List (List ℕ) → Option ℕ
first_path groups [] = none
first_path groups (k ∷ ks) = found_or_next (path_place k groups) (first_path groups ks)

-- `find_class_net_cache_key`, as in path.rs, over path lookup
unfoldable pub find_class_net_cache_key : List ℕ → List Group → Option ℕ
find_class_net_cache_key path groups = first_path groups (class_net_cache_keys path)

-- ---- cache.rs's other lookups

-- outer 0 is none
unfoldable pub outer_of : Guid → Option ℕ
outer_of r = cond (eqb r.outer 0) none (some r.outer)

unfoldable pub then_lookup : {A : Type 0} → (A → Option ℕ) → Option A → Option ℕ
then_lookup f none = none
then_lookup f (some a) = f a

-- `get_outer_guid` answers a GUID
unfoldable pub outer_guid : ℕ → List Guid → Option ℕ
outer_guid guid guids = then_lookup (place_or outer_of none guids) (guid_place guid guids)

-- `get_outer_path` answers a place in the GUID list: that of the outer
unfoldable pub outer_path : ℕ → List Guid → Option ℕ
outer_path guid guids = then_lookup (λ o. guid_place o guids) (outer_guid guid guids)

unfoldable pub tag_group_path : List ℕ
unfolding ascii
tag_group_path = ascii "NetworkGameplayTagNodeIndex"

-- the tag's place is its group's, if that group has the slot filled
unfoldable pub if_filled : ℕ → Slot → Option ℕ
if_filled place empty = none
if_filled place (filled c n) = some place

unfoldable pub gameplay_tag : ℕ → List Group → Option ℕ
gameplay_tag tag groups = then_lookup (λ p. if_filled p (slot_at groups p tag)) (path_place tag_group_path groups)
