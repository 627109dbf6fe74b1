-- The calls that change a book (document 01, The book): `set_net_guid_path`, `add_export_group`, `set_field_on_group` and `clear`. The
-- checks on callers' text are in Calls.antt. A refused step changes nothing.
use Rattle.std.specs.Prelude.{Bool, true, false, cond, ◌&&◌, List, [], ◌∷◌, ◌++◌, ℕ, suc, ◌-◌, eqb, ltb, length, set, replicate}
use Rattle.std.proofs.Math.Option.{Option, none, some}
use Rattle.vrf_path.specs.Text.{same}
use Rattle.vrf_model.specs.Book.{Guid, Slot, empty, filled, Group, Content, Increments, no_increment, fresh, passed}
use Rattle.vrf_model.specs.Lookup.{place_or, path_place, index_place, guid_place, slot_at}

-- done: an answer, the content then held and what the counters go up by; or a refusal's number, a and b
pub data Step (A : Type 0) : Type 0 where
  done : A → Content → Increments → Step A
  refuses : ℕ → ℕ → ℕ → Step A

-- keeping: 42, a count after this step would pass its allowance, lowest first
unfoldable pub unless_passed : {A : Type 0} → Option ℕ → A → Content → Increments → Step A
unless_passed none a c t = done a c t
unless_passed (some which) a c t = refuses 42 which 0

unfoldable pub keep : {A : Type 0} → A → Content → Increments → Step A
keep a c t = unless_passed (passed c) a c t

-- ---- what each step adds to the counters, as in cache.rs

unfoldable pub schema_step : Increments
schema_step = record { schema = 1; guid = 0; dropped = 0; replaced = 0; renamed = 0 }

unfoldable pub replaced_step : Increments
replaced_step = record { schema = 1; guid = 0; dropped = 0; replaced = 1; renamed = 0 }

unfoldable pub guid_step : Increments
guid_step = record { schema = 0; guid = 1; dropped = 0; replaced = 0; renamed = 0 }

unfoldable pub dropped_step : Increments
dropped_step = record { schema = 0; guid = 0; dropped = 1; replaced = 0; renamed = 0 }

unfoldable pub renamed_step : ℕ → Increments
renamed_step n = record { schema = 0; guid = 0; dropped = 0; replaced = 0; renamed = n }

unfoldable pub clear_step : Increments
clear_step = record { schema = 1; guid = 1; dropped = 0; replaced = 0; renamed = 0 }

-- ---- changes of a list

-- the list with f of the element at place i; the list as it is if there is no such place
unfoldable pub alter : {A : Type 0} → (A → A) → List A → ℕ → List A
alter f [] i = []
alter f (a ∷ l) ℕ.zero = f a ∷ l
alter f (a ∷ l) (suc i) = a ∷ alter f l i

unfoldable pub with_guids : Content → List Guid → Content
with_guids c l = record { allowed = c.allowed; guids = l; groups = c.groups }

unfoldable pub with_groups : Content → List Group → Content
with_groups c l = record { allowed = c.allowed; guids = c.guids; groups = l }

-- ---- set_net_guid_path

abbrev pub new_guid : ℕ → List ℕ → ℕ → Guid
new_guid guid path outer = record { guid = guid; path = path; outer = outer }

-- a record that takes another path and outer
abbrev pub with_path : List ℕ → ℕ → Guid → Guid
with_path path outer r = new_guid r.guid path outer

-- whether a record has this path and outer
unfoldable pub has_path : List ℕ → ℕ → Guid → Bool
has_path path outer r = same path r.path && eqb outer r.outer

-- GUID, path and outer in order of first setting: a new GUID is appended, a known one takes path and outer in its place; an identical
-- setting does nothing
unfoldable pub set_guid_at : ℕ → List ℕ → ℕ → Content → Option ℕ → Step (Unit {0})
set_guid_at guid path outer c none = keep tt (with_guids c (c.guids ++ (new_guid guid path outer ∷ []))) guid_step
set_guid_at guid path outer c (some i) =
    cond (place_or (has_path path outer) false c.guids i) (done tt c no_increment)
    (keep tt (with_guids c (alter (with_path path outer) c.guids i)) guid_step)

unfoldable pub set_guid : ℕ → List ℕ → ℕ → Content → Step (Unit {0})
set_guid guid path outer c = set_guid_at guid path outer c (guid_place guid c.guids)

-- ---- add_export_group

unfoldable pub new_group : List ℕ → ℕ → ℕ → Group
new_group path index slots = record { path = path; index = index; slots = replicate slots empty }

-- the slots of a group that grows to the slot count, never shrinks
unfoldable pub grown : ℕ → List Slot → List Slot
grown n slots = slots ++ replicate (n - length slots) empty

unfoldable pub merged_group : List ℕ → ℕ → ℕ → Group → Group
merged_group path index slots g = record { path = path; index = index; slots = grown slots g.slots }

-- path found: that group takes the new path and index and grows to the slot count, never shrinks
unfoldable pub merge : List ℕ → ℕ → ℕ → Content → ℕ → Step ℕ
merge path index slots c i = keep i (with_groups c (alter (merged_group path index slots) c.groups i)) schema_step

-- path and index found at different groups: 23; path found: merge; only the index found: the group is replaced, fields gone; neither:
-- append
unfoldable pub add_group_at : List ℕ → ℕ → ℕ → Content → Option ℕ → Option ℕ → Step ℕ
add_group_at path index slots c none none = keep (length c.groups) (with_groups c (c.groups ++ (new_group path index slots ∷ []))) schema_step
add_group_at path index slots c none (some j) = keep j (with_groups c (set c.groups j (new_group path index slots))) replaced_step
add_group_at path index slots c (some i) none = merge path index slots c i
add_group_at path index slots c (some i) (some j) = cond (eqb i j) (merge path index slots c i) (refuses 23 index 0)

unfoldable pub add_group : List ℕ → ℕ → ℕ → Content → Step ℕ
add_group path index slots c = add_group_at path index slots c (path_place path c.groups) (index_place index c.groups)

-- ---- set_field_on_group

unfoldable pub with_slot : ℕ → Slot → Group → Group
with_slot handle s g = record { path = g.path; index = g.index; slots = set g.slots handle s }

-- 1 if a filled slot takes another name, otherwise 0
unfoldable pub renames : Slot → List ℕ → ℕ
renames empty name = 0
renames (filled c n) name = cond (same n name) 0 1

-- answers not placed (and counts a drop) for an unknown index or a handle past the slots
unfoldable pub set_field_at : ℕ → ℕ → List ℕ → Content → Option ℕ → Step Bool
set_field_at handle checksum name c none = done false c dropped_step
set_field_at handle checksum name c (some i) =
    cond (ltb handle (place_or (λ g. length g.slots) 0 c.groups i))
    (keep true (with_groups c (alter (with_slot handle (filled checksum name)) c.groups i)) (renamed_step (renames (slot_at c.groups i handle) name)))
    (done false c dropped_step)

unfoldable pub set_field : ℕ → ℕ → ℕ → List ℕ → Content → Step Bool
set_field index handle checksum name c = set_field_at handle checksum name c (index_place index c.groups)

-- ---- clear

-- `clear` steps both generations and keeps the other three; the allowances stay
unfoldable pub clear : Content → Step (Unit {0})
clear c = done tt (fresh c.allowed) clear_step
