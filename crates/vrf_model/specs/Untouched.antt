-- Demand 1: no call touches another group's slots. These definitions state what stays as it was when a field is placed and when a group is
-- added, and which calls are readers. Proved in Laws/Untouched.antt and Laws/Lawful/Calls.antt.
use Rattle.std.specs.Prelude.{◌≡◌, List, ℕ, length}
use Rattle.std.proofs.Math.Option.{Option, none, some}
use Rattle.vrf_model.specs.Book.{Slot, Group, Content}
use Rattle.vrf_model.specs.Lookup.{place_or, index_place, path_at, index_at, slots_at, slot_at}
use Rattle.vrf_model.specs.Calls.{Call, clear_book, add_export_group, set_field_on_group, set_net_guid_path, read_net_field_exports, read_export_guids, load_object, read_checkpoint_tables, lookup}

-- the group at a place, if there is one
abbrev pub group_at : List Group → ℕ → Option Group
group_at groups p = place_or some none groups p

-- c before, d after: the slot of the group at the place is s; every other slot, each path, index and slot count, and the GUID list are as
-- they were
pub record OneSlot (place slot : ℕ) (s : Slot) (c d : Content) : Type 0 where
  pub own : slot_at d.groups place slot ≡ s
  pub others : (p q : ℕ) → ((p ≡ place) × (q ≡ slot) → ⊥) → slot_at d.groups p q ≡ slot_at c.groups p q
  pub paths : (p : ℕ) → path_at d.groups p ≡ path_at c.groups p
  pub indices : (p : ℕ) → index_at d.groups p ≡ index_at c.groups p
  pub slots : (p : ℕ) → slots_at d.groups p ≡ slots_at c.groups p
  pub groups : length d.groups ≡ length c.groups
  pub guids : d.guids ≡ c.guids

-- a placed field: only its slot changes, in the group that has its index
pub record PlacedAlone (index handle : ℕ) (s : Slot) (c d : Content) : Type 0 where
  pub place : ℕ
  pub found : index_place index c.groups ≡ some place
  pub slot : OneSlot place handle s c d

-- c before, d after: the group at the place has the path and the index; every other group and the GUID list are as they were
pub record OneGroup (place : ℕ) (path : List ℕ) (index : ℕ) (c d : Content) : Type 0 where
  pub own_path : path_at d.groups place ≡ path
  pub own_index : index_at d.groups place ≡ index
  pub others : (p : ℕ) → (p ≡ place → ⊥) → group_at d.groups p ≡ group_at c.groups p
  pub guids : d.guids ≡ c.guids

-- ---- readers

-- a refused reader leaves all it took before the refused step; any other refusal changes no book content or counter
abbrev pub IsReader : Call → Type 0
IsReader clear_book = ⊥
IsReader (add_export_group path index slots) = ⊥
IsReader (set_field_on_group index handle checksum name) = ⊥
IsReader (set_net_guid_path guid path outer) = ⊥
IsReader (read_net_field_exports w) = Unit {0}
IsReader (read_export_guids w) = Unit {0}
IsReader (load_object w exporting depth) = Unit {0}
IsReader (read_checkpoint_tables w) = Unit {0}
IsReader (lookup l) = ⊥
