-- Demand 1, stated over the contracts of the exported functions. A call is refused with 2 and changes nothing, or it works on a book that
-- keeps the rules of document 01. A memory that is cut is refused. An accepted field changes its own slot and no other slot of any group.
-- A group that is added, merged or replaced leaves every other group as it was. `Laws.Demand1` proves this.
use Rattle.std.specs.Prelude.{◌≡◌, true, List, ◌⊎◌, ℕ, ◌<◌, take}
use Rattle.vrf_model.specs.Book.{filled}
use Rattle.vrf_model.specs.Calls.{Call, add_export_group, set_field_on_group, Answer, refusal-of, field_placed, at_place}
use Rattle.vrf_model.specs.Untouched.{IsReader, PlacedAlone, OneGroup}
use Rattle.vrf_model.specs.Lawful.{Lawful}
use Rattle.vrf_store.specs.Layout
use Rattle.vrf_store.specs.Store.{book_of}
use Rattle.vrf_schema.specs.CallContract.{Corrupt, CallContract}

-- the memory m holds a book that keeps the rules of document 01, with the allowances in its header
abbrev pub LawfulBook : List ℕ → Type 0
LawfulBook m = Lawful (book_of m).content.allowed (book_of m).content

pub record Demand-1 : Type 0 where
  -- a call is refused with 2 and leaves the memory as it was, or it works on a lawful book and leaves a lawful book
  pub refused_or_lawful : {k : Call} {m m' : List ℕ} {r : Answer} → CallContract k m m' r → Corrupt m m' r ⊎ (LawfulBook m × LawfulBook m')
  -- a memory that is cut below the need of the allowances in its header is refused with 2
  pub cut_refused : {k : Call} {m' : List ℕ} {r : Answer} (m : List ℕ) (n : ℕ) → n < Layout.need (book_of m).content.allowed → CallContract k (take n m) m' r → Corrupt (take n m) m' r
  -- a refused call that is not a reader leaves the GUID and group lists as they were
  pub refused_keeps : {k : Call} {m m' : List ℕ} {n a b : ℕ} → (IsReader k → ⊥) → CallContract k m m' (refusal-of n a b) → (book_of m').content ≡ (book_of m).content
  -- a field that is placed changes its own slot, and no other slot of any group
  pub field_alone : {m m' : List ℕ} {index handle checksum : ℕ} {name : List ℕ} → CallContract (set_field_on_group index handle checksum name) m m' (field_placed true)
      → PlacedAlone index handle (filled checksum name) (book_of m).content (book_of m').content
  -- a group that is added, merged or replaced leaves every other group as it was
  pub group_alone : {m m' : List ℕ} {path : List ℕ} {index slots place : ℕ} → CallContract (add_export_group path index slots) m m' (at_place place)
      → OneGroup place path index (book_of m).content (book_of m').content
