-- The book (document 01): the GUID list in order of first setting, the group list, the five allowances, what is held against them, and the
-- five counters. A text is a list of its UTF-8 bytes.
use Rattle.std.specs.Prelude.{cond, List, [], ◌∷◌, ℕ, ◌+◌, ◌%◌, ◌^◌, ltb, length}
use Rattle.std.proofs.Math.Option.{Option, none, some}

-- GUID, path and outer; outer 0 is none
pub record Guid : Type 0 where
  pub guid : ℕ
  pub path : List ℕ
  pub outer : ℕ

-- a slot; a filled slot has handle, checksum and name. The handle is the slot's own place, so only checksum and name are held
pub data Slot : Type 0 where
  empty : Slot
  filled : ℕ → List ℕ → Slot

-- path, path-name index, slots
pub record Group : Type 0 where
  pub path : List ℕ
  pub index : ℕ
  pub slots : List Slot

-- the five allowances: 1 GUID records, 2 groups, 3 filled fields, 4 text bytes, 5 literals in one block
pub record Allowances : Type 0 where
  pub guids : ℕ
  pub groups : ℕ
  pub fields : ℕ
  pub text : ℕ
  pub literals : ℕ

-- what a book holds besides its counters: allowances, GUID list and group list
pub record Content : Type 0 where
  pub allowed : Allowances
  pub guids : List Guid
  pub groups : List Group

-- five counters, modulo 2^64: the two generations, dropped, replaced, renamed
pub record Counters : Type 0 where
  pub schema : ℕ
  pub guid : ℕ
  pub dropped : ℕ
  pub replaced : ℕ
  pub renamed : ℕ

-- what a step adds to each counter; these numbers are not reduced
pub record Increments : Type 0 where
  pub schema : ℕ
  pub guid : ℕ
  pub dropped : ℕ
  pub replaced : ℕ
  pub renamed : ℕ

pub record Book : Type 0 where
  pub content : Content
  pub counters : Counters

-- ---- counters

unfoldable pub no_increment : Increments
no_increment = record { schema = 0; guid = 0; dropped = 0; replaced = 0; renamed = 0 }

unfoldable pub add_increments : Increments → Increments → Increments
add_increments a b = record {
  schema = a.schema + b.schema;
  guid = a.guid + b.guid;
  dropped = a.dropped + b.dropped;
  replaced = a.replaced + b.replaced;
  renamed = a.renamed + b.renamed;
}

-- five counters go up modulo 2^64: a, stepped by b
unfoldable pub stepped : Counters → Increments → Counters
stepped a b = record {
  schema = (a.schema + b.schema) % 2 ^ 64;
  guid = (a.guid + b.guid) % 2 ^ 64;
  dropped = (a.dropped + b.dropped) % 2 ^ 64;
  replaced = (a.replaced + b.replaced) % 2 ^ 64;
  renamed = (a.renamed + b.renamed) % 2 ^ 64;
}

-- ---- a freshly opened book

unfoldable pub zero_counters : Counters
zero_counters = record { schema = 0; guid = 0; dropped = 0; replaced = 0; renamed = 0 }

unfoldable pub fresh : Allowances → Content
fresh a = record { allowed = a; guids = []; groups = [] }

unfoldable pub fresh_book : Allowances → Book
fresh_book a = record { content = fresh a; counters = zero_counters }

-- ---- what is held

unfoldable pub sum : {A : Type 0} → (A → ℕ) → List A → ℕ
sum f [] = 0
sum f (a ∷ l) = f a + sum f l

unfoldable pub slot_fields : Slot → ℕ
slot_fields empty = 0
slot_fields (filled c n) = 1

unfoldable pub slot_text : Slot → ℕ
slot_text empty = 0
slot_text (filled c n) = length n

unfoldable pub guid_text : Guid → ℕ
guid_text g = length g.path

unfoldable pub group_fields : Group → ℕ
group_fields g = sum slot_fields g.slots

unfoldable pub group_text : Group → ℕ
group_text g = length g.path + sum slot_text g.slots

-- allowance 3 counts the filled fields
unfoldable pub held_fields : Content → ℕ
held_fields c = sum group_fields c.groups

-- allowance 4 counts the UTF-8 bytes of all texts then held: the paths of GUIDs and groups, and the names of filled slots
unfoldable pub held_text : Content → ℕ
held_text c = sum guid_text c.guids + sum group_text c.groups

-- the lowest allowance that a count passes, if any. Allowance 5 is not here: it is checked where a block's literals are read
unfoldable pub passed : Content → Option ℕ
passed c =
    cond (ltb c.allowed.guids (length c.guids)) (some 1)
    (cond (ltb c.allowed.groups (length c.groups)) (some 2)
    (cond (ltb c.allowed.fields (held_fields c)) (some 3)
    (cond (ltb c.allowed.text (held_text c)) (some 4)
    none)))
