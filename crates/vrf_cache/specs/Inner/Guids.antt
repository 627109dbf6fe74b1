-- Contracts of the functions of `guids`: a record is added, or takes a new path and outer.
use Rattle.std.specs.Prelude.{◌≡◌, List, [], ◌∷◌, ◌++◌, ℕ, ◌<◌, set}
use Rattle.std.proofs.Math.Option.{none}
use Rattle.vrf_text.specs.Text.{IsText}
use Rattle.vrf_model.specs.Book.{Guid, Content}
use Rattle.vrf_model.specs.Lookup.{guid_place}
use Rattle.vrf_model.specs.Setting.{Step, keep, guid_step, with_guids}
use Rattle.vrf_store.specs.Store.{header_of}
use Rattle.vrf_store.specs.Inner.WellFormed.{WellFormed}
use Rattle.vrf_store.specs.Inner.Stepped.{held}

-- the step that sets a GUID and leaves the content c
abbrev pub setting : Content → Step (Unit {0})
setting c = keep tt c guid_step

-- ---- one more record

-- r appended to the GUID list
abbrev pub with_new : Content → Guid → Content
with_new c r = with_guids c (c.guids ++ (r ∷ []))

-- what `add_guid` requires: the GUID has no record
pub record GuidToAdd (m path : List ℕ) (guid : ℕ) : Type 0 where
  pub good : WellFormed m
  pub is_text : IsText path
  pub new : guid_place guid (held m).guids ≡ none

-- ---- a new path and outer of a record

-- record e replaced by r
abbrev pub with_other : Content → ℕ → Guid → Content
with_other c e r = with_guids c (set c.guids e r)

-- what `change_guid` requires: e is a record
pub record GuidToChange (m path : List ℕ) (e : ℕ) : Type 0 where
  pub good : WellFormed m
  pub is_text : IsText path
  pub known : e < (header_of m).guids
