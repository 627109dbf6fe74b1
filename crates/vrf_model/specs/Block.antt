-- Reading a block (document 01, Blocks): `read_checkpoint_tables`.
use Rattle.std.specs.Prelude.{Bool, cond, ◌||◌, List, [], ◌∷◌, ◌++◌, ℕ, zero, suc, ◌+◌, ◌/◌, eqb, ltb, length, get_or}
use Rattle.std.proofs.Math.Option.{Option, none, some}
use Rattle.vrf_bitio.specs.Reading.{position}
use Rattle.vrf_bitio.specs.Number.{byte, word32}
use Rattle.vrf_text.specs.Text.{fstring}
use Rattle.vrf_model.specs.Book.{Content, no_increment}
use Rattle.vrf_model.specs.Lookup.{path_place, index_place}
use Rattle.vrf_model.specs.Setting.{Step, done, refuses, set_guid, add_group, set_field}
use Rattle.vrf_model.specs.Names.{number, fname}
use Rattle.vrf_model.specs.Parser.{Parser, return, fail, ◌>>=◌, read, step, sum_from}

-- seven counts return: GUIDs, groups, filled slots read, end byte, kind 0 entries, kind 1 entries, places resolved
pub record BlockCounts : Type 0 where
  pub guids : ℕ
  pub groups : ℕ
  pub fields : ℕ
  pub frame : ℕ
  pub indexed : ℕ
  pub literals : ℕ
  pub resolved : ℕ

-- ---- GUIDs

-- of the GUID entries read so far: the paths that a place can refer to, and the numbers of kind 1 entries, of kind 0 entries and of places
-- resolved
pub record PathTable : Type 0 where
  pub paths : List (List ℕ)
  pub literals : ℕ
  pub indexed : ℕ
  pub resolved : ℕ

unfoldable pub no_paths : PathTable
no_paths = record { paths = []; literals = 0; indexed = 0; resolved = 0 }

-- how the entries of a block give their paths: a kind 0 entry, given its number, and a kind 1 entry. Each answers the path and the table
-- with this entry
pub record PathRule : Type 0 where
  pub place : ℕ → PathTable → Parser (List ℕ × PathTable)
  pub text : PathTable → Parser (List ℕ × PathTable)

-- literals are taken against allowance 5; n is the count with this one
unfoldable pub take_literal : ℕ → Content → Step (Unit {0})
take_literal n c = cond (ltb c.allowed.literals n) (refuses 42 5 0) (done tt c no_increment)

-- text (kind 1)
unfoldable pub literal : PathTable → Parser (List ℕ × PathTable)
literal t = do
  path ← read fstring
  u ← step (take_literal (t.literals + 1))
  return (path, record { paths = t.paths ++ (path ∷ []); literals = t.literals + 1; indexed = t.indexed; resolved = t.resolved })

-- packed place among this block's earlier literals (kind 0); 33: no such place
unfoldable pub resolved : ℕ → PathTable → Parser (List ℕ × PathTable)
resolved entry t = do
  place ← read number
  cond (ltb place (length t.paths))
      (return (get_or t.paths place [], record { paths = t.paths; literals = t.literals; indexed = t.indexed + 1; resolved = t.resolved + 1 }))
      (fail 33 entry place)

-- the rule of document 01: a place is one among this block's earlier literals
unfoldable pub by_table : PathRule
by_table = record { place = resolved; text = literal }

-- Decision over the kind byte: 0 place, 1 text; 32: any other
unfoldable pub path_of_kind : PathRule → ℕ → PathTable → ℕ → Parser (List ℕ × PathTable)
path_of_kind rule entry t kind = cond (eqb kind 0) (rule.place entry t) (cond (eqb kind 1) (rule.text t) (fail 32 entry kind))

-- per GUID: GUID and outer packed, kind byte, then text or place, flags byte
unfoldable pub block_guid : PathRule → ℕ → PathTable → Parser PathTable
block_guid rule entry t = do
  guid ← read number
  outer ← read number
  kind ← read byte
  p ← path_of_kind rule entry t kind
  flags ← read byte
  u ← step (set_guid guid p.0 outer)
  return p.1

-- n GUIDs; entry is the number of the first
unfoldable pub block_guids : PathRule → ℕ → ℕ → PathTable → Parser PathTable
block_guids rule zero entry t = return t
block_guids rule (suc n) entry t = do
  t' ← block_guid rule entry t
  block_guids rule n (entry + 1) t'

-- ---- groups

unfoldable pub is_found : Option ℕ → Bool
is_found none = Bool.false
is_found (some i) = Bool.true

-- 34: index or path already found; otherwise the group is added
unfoldable pub add_first : List ℕ → ℕ → ℕ → Content → Step ℕ
add_first path index slots c =
    cond (is_found (index_place index c.groups) || is_found (path_place path c.groups)) (refuses 34 index 0)
    (add_group path index slots c)

-- 35: a handle that does not equal the slot
unfoldable pub same_handle : ℕ → ℕ → Parser (Unit {0})
same_handle slot handle = cond (eqb handle slot) (return tt) (fail 35 slot handle)

-- handle packed (equal to the slot), checksum, name; it answers 1, for one filled slot
unfoldable pub block_field : ℕ → ℕ → Parser ℕ
block_field index slot = do
  handle ← read number
  u ← same_handle slot handle
  checksum ← read word32
  name ← read fname
  placed ← step (set_field index handle checksum name)
  return 1

-- per slot a byte, 0 empty, else a field; it answers how many slots were filled, 0 or 1
unfoldable pub block_slot : ℕ → ℕ → Parser ℕ
block_slot index slot = do
  exported ← read byte
  cond (eqb exported 0) (return 0) (block_field index slot)

-- per group: path text, index packed, slots packed, then the slots; 31 (3): slots above 65,536. It answers how many slots were filled
unfoldable pub block_group : Parser ℕ
block_group = do
  path ← read fstring
  index ← read number
  slots ← read number
  place ← cond (ltb 65536 slots) (fail 31 3 slots) (step (add_first path index slots))
  sum_from slots 0 (block_slot index)

-- ---- the block

-- three zero words; 30: word set, with its byte and value
unfoldable pub zero_word : ℕ → Parser (Unit {0})
zero_word at = do
  w ← read word32
  cond (eqb w 0) (return tt) (fail 30 at w)

-- a 32-bit count; 31: above its top
unfoldable pub count_up_to : ℕ → ℕ → Parser ℕ
count_up_to which top = do
  n ← read word32
  cond (ltb top n) (fail 31 which n) (return n)

-- end byte = W+8; 36: any other
unfoldable pub block_end : ℕ → Parser ℕ
block_end w = do
  p ← read position
  cond (eqb (p / 8) (w + 8)) (return (p / 8)) (fail 36 (p / 8) (w + 8))

-- 32-bit word W, three zero words, GUID count, GUIDs, group count, groups, end byte
unfoldable pub block : PathRule → Parser BlockCounts
block rule = do
  w ← read word32
  z4 ← zero_word 4
  z8 ← zero_word 8
  z12 ← zero_word 12
  guids ← count_up_to 1 1000000
  t ← block_guids rule guids 0 no_paths
  groups ← count_up_to 2 100000
  fields ← sum_from groups 0 (λ _. block_group)
  frame ← block_end w
  return (record {
    guids = guids;
    groups = groups;
    fields = fields;
    frame = frame;
    indexed = t.indexed;
    literals = t.literals;
    resolved = t.resolved;
  })
