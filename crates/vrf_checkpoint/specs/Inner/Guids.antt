-- Contracts of the functions of `guids`. The memory stores the position of each literal in the block, and the code counts literals, kind 0
-- entries and places resolved. These represent the `PathTable` of the definition.
use Rattle.std.specs.Prelude.{◌≡◌, List, [], ℕ, ◌+◌, ◌≤◌, ◌<◌, length, take, get_or, Result, Ok, Err}
use Rattle.vrf_bitio.specs.Reading.{ok}
use Rattle.vrf_bitio.specs.Window.{rest}
use Rattle.vrf_bitio.specs.declared.BitReader.{BitReader}
use Rattle.vrf_bitio.specs.declared.Refusal.{Refusal}
use Rattle.vrf_text.specs.Text.{IsText, fstring}
use Rattle.vrf_words.specs.Words.{word}
use Rattle.vrf_model.specs.Parser.{Parser, return}
use Rattle.vrf_model.specs.Block.{PathTable}
use Rattle.vrf_store.specs.Store.{allowances_of, store_of}
use Rattle.vrf_store.specs.Inner.WellFormed.{WellFormed}
use Rattle.vrf_reader.specs.Inner.Simulates.{Simulates, Refines}
use Rattle.vrf_checkpoint.specs.declared.guids.Paths.{Paths}

-- ---- literals

-- reading a text at position p of the window of r gives this text
pub record ReadAgain (r : BitReader) (p : ℕ) (text : List ℕ) : Type 0 where
  pub at : ℕ
  pub left : List ℕ
  pub read : fstring p (rest r.«data».now r.first r.count p) ≡ ok text at left

-- the code's counts t and the stored positions represent the table: its paths are read again at these positions
pub record Represents (r : BitReader) (positions : List ℕ) (t : Paths) (table : PathTable) : Type 0 where
  pub many : t.literals ≡ length table.paths
  pub literals : t.literals ≡ table.literals
  pub indexed : t.indexed ≡ table.indexed
  pub resolved : t.resolved ≡ table.resolved
  pub found : (i : ℕ) → i < length table.paths → ReadAgain r (word positions i) (get_or table.paths i [])

-- after this number of entries no count is larger, and the literals are within allowance 5
pub record AtMostEntries (m : List ℕ) (entries : ℕ) (t : Paths) : Type 0 where
  pub literals : t.literals ≤ entries
  pub indexed : t.indexed ≤ entries
  pub resolved : t.resolved ≤ entries
  pub allowed : t.literals ≤ (allowances_of m).literals

-- what reading the entry with this number requires; a block has at most 1,000,000 entries
pub record BeforeEntry (r : BitReader) (m scratch : List ℕ) (entry : ℕ) (t : Paths) : Type 0 where
  pub good : WellFormed m
  pub wide : 4096 ≤ length scratch
  pub entries : entry < 1000000
  pub few : AtMostEntries m entry t
  pub table : PathTable
  pub represents : Represents r (store_of m).literals t table

-- ---- the path of an entry

-- the path is read, and is the first n bytes of the scratch buffer
pub record PathOf (k : Parser (List ℕ × PathTable)) (r d : BitReader) (m m' scratch : List ℕ) (entry n : ℕ) (t : Paths) : Type 0 where
  pub text : List ℕ
  pub table : PathTable
  pub simulates : Simulates k r m (return (text, table)) d m'
  pub here : take n scratch ≡ text
  pub fits : n ≤ length scratch
  pub is_text : IsText text
  pub represents : Represents d (store_of m').literals t table
  pub few : AtMostEntries m' (entry + 1) t

-- the code answers the length of a path and the counts with this entry, or the refusal
abbrev pub PathReads : Parser (List ℕ × PathTable) → BitReader → BitReader → List ℕ → List ℕ → List ℕ → ℕ
    → Result (ℕ × Paths) Refusal → Type 0
PathReads k r d m m' scratch entry (Ok p) = PathOf k r d m m' scratch entry p.0 p.1
PathReads k r d m m' scratch entry (Err e) = Refines k r d m m' (Err e)

-- a path is read so for every table that the counts represent
abbrev pub PathBy : (PathTable → Parser (List ℕ × PathTable)) → BitReader → BitReader → List ℕ → List ℕ → List ℕ → ℕ → Paths
    → Result (ℕ × Paths) Refusal → Type 0
PathBy k r d m m' scratch entry t x =
    (table : PathTable) → Represents r (store_of m).literals t table → PathReads (k table) r d m m' scratch entry x

-- ---- entries

-- after `entries` entries the counts represent the table
pub record GuidTo (k : Parser PathTable) (r d : BitReader) (m m' : List ℕ) (entries : ℕ) (t : Paths) : Type 0 where
  pub table : PathTable
  pub simulates : Simulates k r m (return table) d m'
  pub represents : Represents d (store_of m').literals t table
  pub few : AtMostEntries m' entries t

-- the code answers the counts after the entries, or the refusal
abbrev pub GuidReads : Parser PathTable → BitReader → BitReader → List ℕ → List ℕ → ℕ → Result Paths Refusal → Type 0
GuidReads k r d m m' entries (Ok t) = GuidTo k r d m m' entries t
GuidReads k r d m m' entries (Err e) = Refines k r d m m' (Err e)

-- an entry is read so for every table that the counts represent
abbrev pub GuidBy : (PathTable → Parser PathTable) → BitReader → BitReader → List ℕ → List ℕ → ℕ → Paths → Result Paths Refusal → Type 0
GuidBy k r d m m' entry t x = (table : PathTable) → Represents r (store_of m).literals t table → GuidReads (k table) r d m m' (entry + 1) x
