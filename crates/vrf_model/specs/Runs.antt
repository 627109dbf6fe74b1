-- Export runs (document 01): `read_net_field_exports`, `read_export_guids` and `load_object`, each in the order of reader.rs.
use Rattle.std.specs.Prelude.{Bool, true, cond, ◌||◌, List, [], ◌∷◌, ℕ, zero, suc, ◌-◌, ◌/◌, ◌%◌, ◌^◌, eqb, leb, ltb, length}
use Rattle.std.proofs.Math.Option.{Option, none, some}
use Rattle.vrf_bitio.specs.Number.{byte, word32, bytes}
use Rattle.vrf_text.specs.Text.{fstring}
use Rattle.vrf_model.specs.Book.{Content, no_increment}
use Rattle.vrf_model.specs.Lookup.{index_place}
use Rattle.vrf_model.specs.Setting.{Step, done, refuses, set_guid, add_group, set_field}
use Rattle.vrf_model.specs.Names.{number, fname}
use Rattle.vrf_model.specs.Parser.{Parsed, parsed, failed, Parser, return, fail, ◌>>=◌, read, step, times}

-- a run: its count, then that many entries; it answers its count
unfoldable pub run_of : Parser (Unit {0}) → Parser ℕ
run_of entry = do
  n ← read number
  u ← times n entry
  return n

-- ---- fields run

-- 20: unknown index
unfoldable pub known : ℕ → Content → Option ℕ → Step (Unit {0})
known index c none = refuses 20 index 0
known index c (some i) = done tt c no_increment

-- a group that the run declares; 22: slots above 65,536
unfoldable pub declared_group : ℕ → Parser (Unit {0})
declared_group index = do
  path ← read fstring
  slots ← read number
  place ← cond (ltb 65536 slots) (fail 22 slots 0) (step (add_group path index slots))
  return tt

-- the flag: 0 refers to a known group, 1 declares a group; 21: flag not 0 or 1
unfoldable pub group_of : ℕ → ℕ → Parser (Unit {0})
group_of index flag =
    cond (eqb flag 0) (step (λ c. known index c (index_place index c.groups)))
    (cond (eqb flag 1) (declared_group index)
    (fail 21 index flag))

-- a field: handle, checksum, name
unfoldable pub exported_field : ℕ → Parser (Unit {0})
exported_field index = do
  handle ← read number
  checksum ← read word32
  name ← read fname
  placed ← step (set_field index handle checksum name)
  return tt

-- one export: its group, then a field if the byte is not 0
unfoldable pub export_entry : Parser (Unit {0})
export_entry = do
  index ← read number
  flag ← read number
  u ← group_of index flag
  hasField ← read byte
  cond (eqb hasField 0) (return tt) (exported_field index)

-- `read_net_field_exports` answers its count
unfoldable pub fields_run : Parser ℕ
fields_run = run_of export_entry

-- ---- load_object

-- flags are read when exporting or when the GUID is 1
unfoldable pub flags_of : Bool → ℕ → Parser ℕ
flags_of exporting guid = cond (exporting || eqb guid 1) (read byte) (return 0)

-- bit 2 has a checksum, read only after a path
unfoldable pub skip_checksum : ℕ → Parser (Unit {0})
skip_checksum flags = cond (eqb (flags / 4 % 2) 1) (do
  checksum ← read word32
  return tt) (return tt)

-- bit 0 has a path. The outer object is read first: inner objects are recorded first
unfoldable pub object_path : Parser ℕ → ℕ → ℕ → Parser ℕ
object_path outerObject guid flags = do
  outer ← outerObject
  path ← read fstring
  u ← skip_checksum flags
  v ← step (set_guid guid path outer)
  return guid

unfoldable pub object_after : Parser ℕ → Bool → ℕ → Parser ℕ
object_after outerObject exporting guid = do
  flags ← flags_of exporting guid
  cond (eqb (flags % 2) 1) (object_path outerObject guid flags) (return guid)

-- GUID 0 ends a chain with nothing more read
unfoldable pub object_with_outer : Parser ℕ → Bool → Parser ℕ
object_with_outer outerObject exporting = do
  guid ← read number
  cond (eqb guid 0) (return 0) (object_after outerObject exporting guid)

-- an object with this depth left, which is 16 minus its depth. At depth 16 or more it is refused before reading
unfoldable pub object : ℕ → Bool → Parser ℕ
object zero exporting = fail 26 16 0
object (suc left) exporting = object_with_outer (object left exporting) exporting

-- `load_object` with a starting depth given answers its GUID
unfoldable pub object_at : ℕ → Bool → Parser ℕ
object_at depth exporting = object (16 - depth) exporting

-- ---- GUID run

-- after a window of its own is read: 25 if whole bytes are left in it; otherwise the reader continues at pos, after the window
unfoldable pub after_inner : {A : Type 0} → ℕ → List ℕ → Parsed A → Parsed A
after_inner pos l (parsed a p [] c t) = parsed a pos l c t
after_inner pos l (parsed a p (b ∷ m) c t) = failed 25 (length (b ∷ m)) 0 c t
after_inner pos l (failed n a b c t) = failed n a b c t

-- bytes that are a window of their own: positions inside it count from its first bit
unfoldable pub inner_window : {A : Type 0} → Parser A → List ℕ → Parser A
inner_window r window pos l c t = after_inner pos l (r 0 window c t)

-- a payload of n bytes
unfoldable pub payload_of : {A : Type 0} → ℕ → Parser A → Parser A
payload_of n r = do
  payload ← read (bytes n)
  inner_window r payload

-- 24: negative size
unfoldable pub guid_entry : Parser (Unit {0})
guid_entry = do
  size ← read word32
  guid ← cond (leb (2 ^ 31) size) (fail 24 size 0) (payload_of size (object_at 0 true))
  return tt

-- `read_export_guids` answers its count
unfoldable pub guid_run : Parser ℕ
guid_run = run_of guid_entry
