-- Contracts of the functions of `fields`: an empty slot is filled, or a filled one takes a new checksum and name.
use Rattle.std.specs.Prelude.{◌≡◌, Bool, true, List, ℕ, ◌/◌, ◌%◌, ◌<◌}
use Rattle.vrf_text.specs.Text.{IsText}
use Rattle.vrf_model.specs.Book.{empty, filled, Content}
use Rattle.vrf_model.specs.Lookup.{slot_at}
use Rattle.vrf_model.specs.Setting.{Step, keep, renamed_step, renames}
use Rattle.vrf_table.specs.Table.{key, text}
use Rattle.vrf_store.specs.Store.{header_of, store_of}
use Rattle.vrf_store.specs.Inner.WellFormed.{WellFormed}
use Rattle.vrf_store.specs.Inner.Stepped.{held}
use Rattle.vrf_store.specs.Inner.Fields.{with_field}
use Rattle.vrf_cache.specs.Inner.Slots.{slots_at}

-- the step in which the slot takes a checksum and a name
abbrev pub setting : Content → (place slot checksum : ℕ) → List ℕ → Step Bool
setting c place slot checksum name = keep true (with_field c place slot (filled checksum name)) (renamed_step (renames (slot_at c.groups place slot) name))

-- ---- one more field

-- what `add_field` requires: the slot exists and is empty
pub record FieldToAdd (m name : List ℕ) (place slot : ℕ) : Type 0 where
  pub good : WellFormed m
  pub is_text : IsText name
  pub slot-in : slot < slots_at (held m).groups place
  pub free : slot_at (held m).groups place slot ≡ empty

-- ---- a new checksum and name of a field

-- the group place and the slot of field row e, read from its key, and its name
abbrev pub place_of : List ℕ → ℕ → ℕ
place_of m e = key (store_of m).field_rows e / 65536

abbrev pub slot_of : List ℕ → ℕ → ℕ
slot_of m e = key (store_of m).field_rows e % 65536

abbrev pub name_at : List ℕ → ℕ → List ℕ
name_at m e = text (store_of m).field_rows (store_of m).texts e

-- what `change_field` requires: e is a field row
pub record FieldToChange (m name : List ℕ) (e : ℕ) : Type 0 where
  pub good : WellFormed m
  pub is_text : IsText name
  pub known : e < (header_of m).fields
