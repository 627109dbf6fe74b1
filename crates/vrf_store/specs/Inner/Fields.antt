-- Contracts of the functions that look up, add, change and drop fields.
use Rattle.std.specs.Prelude.{◌≡◌, ℕ, zero, suc, ◌+◌, ◌-◌, ◌*◌, ◌/◌, ◌%◌, ◌<◌, ◌≤◌, cond, List, length, replicate, ◌==◌, nat_lt}
use Rattle.std.proofs.Math.Option.{Option, none}
use Rattle.vrf_bitio.specs.Pasted.{pasted}
use Rattle.vrf_model.specs.Book.{empty, Slot, Group, Content}
use Rattle.vrf_model.specs.Setting.{alter, with_groups, with_slot}
use Rattle.vrf_table.specs.Table.{key, info, find_key, at, len}
use Rattle.vrf_store.specs.Layout
use Rattle.vrf_store.specs.Store.{Store, slot_key, store_of}
use Rattle.vrf_store.specs.Inner.Memory.{TextPlaced, pushed}
use Rattle.vrf_store.specs.Inner.Stepped.{held, KeysKept, Stepped}

-- the row of the field with the key k
abbrev pub field_found : Store → ℕ → Option ℕ
field_found s k = find_key s.field_rows s.field_heads (Layout.field_buckets s.header.allowed) s.header.fields k

-- the row of the field in a slot. No group has a slot 65536: its key would be the key of the next group's first slot
unfoldable pub slot_row : Store → ℕ → ℕ → Option ℕ
slot_row s place slot = cond (nat_lt slot 65536) (field_found s (slot_key place slot)) none

-- ---- changing one group

-- the content with f of the group at this place
abbrev pub with_group : Content → ℕ → (Group → Group) → Content
with_group c place f = with_groups c (alter f c.groups place)

-- the content with w in a slot of the group at this place
abbrev pub with_field : Content → ℕ → ℕ → Slot → Content
with_field c place slot w = with_group c place (with_slot slot w)

-- ---- adding a field

-- what `push_field` requires: the slot is an empty slot of a group, the book has space for one more field, and the name is in the texts
pub record NewField (s : Store) (place slot a l : ℕ) : Type 0 where
  pub place_in : place < s.header.groups
  pub slot-in : slot < info s.group_rows place
  pub space : s.header.fields < s.header.allowed.fields
  pub text_space : s.header.held + l ≤ s.header.allowed.text
  pub new : find_key s.field_rows s.field_heads (Layout.field_buckets s.header.allowed) s.header.fields (slot_key place slot) ≡ none
  pub placed : TextPlaced s.header.used s.texts a l

-- ---- changing the name and checksum of a row

pub record NewName (s : Store) (e a l : ℕ) : Type 0 where
  pub row : e < s.header.fields
  pub text_space : s.header.held - len s.field_rows e + l ≤ s.header.allowed.text
  pub placed : TextPlaced s.header.used s.texts a l

-- ---- dropping the fields of a group

-- the state of the loop: the memory of the table, the number of rows kept, and the total length of the names dropped
pub record Pass : Type 0 where
  pub table : List ℕ
  pub kept : ℕ
  pub gone : ℕ

abbrev pub pass_of : List ℕ → ℕ → ℕ → Pass
pass_of t kept gone = record { table = t; kept = kept; gone = gone }

-- row e is dropped, or kept
abbrev pub row_dropped : ℕ → Pass → Pass
row_dropped e p = record { table = p.table; kept = p.kept; gone = p.gone + len p.table e }

abbrev pub row_kept : ℕ → ℕ → Pass → Pass
row_kept cap e p = record { table = pushed p.table cap (4 * cap + 1) p.kept (key p.table e) (at p.table e) (len p.table e) (info p.table e); kept = suc p.kept; gone = p.gone }

unfoldable pub pass_row : ℕ → ℕ → ℕ → Pass → Pass
pass_row cap place e p = cond (key p.table e / 65536 == place) (row_dropped e p) (row_kept cap e p)

-- the memory of a table with empty heads
abbrev pub headless : ℕ → List ℕ → List ℕ
headless cap t = pasted t (4 * (6 * cap)) (replicate (4 * (4 * cap + 1)) 0)

-- the state after e rows, when the fields of the group at `place` are dropped
unfoldable pub pass_rows : ℕ → ℕ → List ℕ → ℕ → Pass
pass_rows cap place t zero = record { table = t; kept = 0; gone = 0 }
pass_rows cap place t (suc e) = pass_row cap place e (pass_rows cap place t e)

-- ---- the whole change

-- the group with all slots empty
abbrev pub emptied : Group → Group
emptied g = record { path = g.path; index = g.index; slots = replicate (length g.slots) empty }

-- only row e changes: w is now in its slot, and all rows keep their keys
pub record Renamed (m m' : List ℕ) (e : ℕ) (w : Slot) : Type 0 where
  pub stepped : Stepped m m' (with_field (held m) (key (store_of m).field_rows e / 65536) (key (store_of m).field_rows e % 65536) w)
  pub keys : KeysKept m m'
