-- Contracts of the functions that add and change GUID records.
use Rattle.std.specs.Prelude.{◌≡◌, ℕ, ◌+◌, ◌-◌, ◌<◌, ◌≤◌, List}
use Rattle.std.proofs.Math.Option.{none}
use Rattle.vrf_words.specs.Words.{part}
use Rattle.vrf_model.specs.Book.{Guid}
use Rattle.vrf_model.specs.Lookup.{guid_place}
use Rattle.vrf_model.specs.Setting.{new_guid}
use Rattle.vrf_table.specs.Table.{len}
use Rattle.vrf_store.specs.Store.{Store, allowances_of, header_of, store_of}
use Rattle.vrf_store.specs.Inner.WellFormed.{WellFormed}
use Rattle.vrf_store.specs.Inner.Memory.{TextPlaced}
use Rattle.vrf_store.specs.Inner.Stepped.{held}

-- the record whose path is the text at this place of the store
abbrev pub guid_of : Store → (guid at len outer : ℕ) → Guid
guid_of s guid at len outer = new_guid guid (part s.texts at len) outer

-- ---- adding a record

-- what `push_guid` requires: a GUID that no record has, a path in the texts, and space for both
pub record NewGuid (m : List ℕ) (guid at len : ℕ) : Type 0 where
  pub good : WellFormed m
  pub new : guid_place guid (held m).guids ≡ none
  pub few : (header_of m).guids < (allowances_of m).guids
  pub placed : TextPlaced (header_of m).used (store_of m).texts at len
  pub space : (header_of m).held + len ≤ (allowances_of m).text

-- ---- changing the path and outer of a record

-- what `set_guid` requires. The bytes of the old path count as free
pub record OldGuid (m : List ℕ) (e at l : ℕ) : Type 0 where
  pub good : WellFormed m
  pub known : e < (header_of m).guids
  pub placed : TextPlaced (header_of m).used (store_of m).texts at l
  pub space : (header_of m).held - len (store_of m).guid_rows e + l ≤ (allowances_of m).text
