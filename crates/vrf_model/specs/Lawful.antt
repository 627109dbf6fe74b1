-- The book's rules (document 01, The book), which hold of every book that these calls made.
use Rattle.std.specs.Prelude.{◌≡◌, List, [], ◌∷◌, ℕ, ◌^◌, ◌<◌, ◌≤◌, eqb, length}
use Rattle.std.proofs.Math.Option.{none}
use Rattle.vrf_text.specs.Text.{IsText}
use Rattle.vrf_model.specs.Book.{Guid, Slot, empty, filled, Group, Allowances, Content, held_fields, held_text}
use Rattle.vrf_model.specs.Lookup.{last_place}

-- P holds of each element
pub data Each {A : Type 0} (P : A → Type 0) : List A → Type 0 where
  nil : Each P []
  cons : {a : A} {l : List A} → P a → Each P l → Each P (a ∷ l)

-- f gives no two elements of the list the same number
abbrev pub Distinct : {A : Type 0} → (A → ℕ) → List A → Type 0
Distinct f [] = Unit {0}
Distinct f (a ∷ l) = (last_place (λ b. eqb (f b) (f a)) l ≡ none) × Distinct f l

-- a number of 32 bits
abbrev pub Is32 : ℕ → Type 0
Is32 n = n < 2 ^ 32

-- GUID and outer have 32 bits, and the path is UTF-8 of at most 4,096 bytes
pub record LawfulGuid (r : Guid) : Type 0 where
  pub guid : Is32 r.guid
  pub outer : Is32 r.outer
  pub path : IsText r.path

-- a filled slot has a checksum of 32 bits and a name of at most 4,096 bytes of UTF-8
abbrev pub LawfulSlot : Slot → Type 0
LawfulSlot empty = Unit {0}
LawfulSlot (filled checksum name) = Is32 checksum × IsText name

-- path-name index of 32 bits, 0 to 65,536 slots, and a path of at most 4,096 bytes of UTF-8
pub record LawfulGroup (g : Group) : Type 0 where
  pub index : Is32 g.index
  pub path : IsText g.path
  pub few : length g.slots ≤ 65536
  pub slots : Each LawfulSlot g.slots

-- no allowance is above its top
pub record Allowed (a : Allowances) : Type 0 where
  pub guids : a.guids ≤ 1000000
  pub groups : a.groups ≤ 100000
  pub fields : a.fields ≤ 1000000
  pub text : a.text ≤ 67108864
  pub literals : a.literals ≤ 1000000

-- no count passes its allowance
pub record WithinAllowances (c : Content) : Type 0 where
  pub guids : length c.guids ≤ c.allowed.guids
  pub groups : length c.groups ≤ c.allowed.groups
  pub fields : held_fields c ≤ c.allowed.fields
  pub text : held_text c ≤ c.allowed.text

-- a lawful book with the allowances a: GUIDs are distinct, indices are distinct, and no count passes its allowance
pub record Lawful (a : Allowances) (c : Content) : Type 0 where
  pub allowed : c.allowed ≡ a
  pub tops : Allowed a
  pub guids : Each LawfulGuid c.guids
  pub guids_distinct : Distinct (λ r. r.guid) c.guids
  pub groups : Each LawfulGroup c.groups
  pub indices_distinct : Distinct (λ g. g.index) c.groups
  pub within : WithinAllowances c
