-- The book calls and lookups of document 01: for each, what it answers and what it leaves in the book.
use Rattle.std.specs.Prelude.{Bool, cond, List, [], ◌∷◌, ℕ, ◌*◌, ltb, length}
use Rattle.std.proofs.Math.Option.{Option}
use Rattle.vrf_bitio.specs.Reading.{Read, ok, refused}
use Rattle.vrf_bitio.specs.Window.{window}
use Rattle.vrf_text.specs.Text.{CallerText, accepted, refusal, caller_text}
use Rattle.vrf_model.specs.Book.{Guid, Group, Content, Increments, Book, no_increment, stepped}
use Rattle.vrf_model.specs.Lookup.{place_or, path_place, index_place, guid_place, path_at, index_at, slots_at, slot_at, slot_checksum, slot_name, unique_leaf_match, resolve_cnc, find_class_net_cache_key}
use Rattle.vrf_model.specs.Lookup.{outer_guid, outer_path, gameplay_tag}
use Rattle.vrf_model.specs.Setting.{Step, done, refuses, set_guid, add_group, set_field, clear}
use Rattle.vrf_model.specs.Parser.{Parsed, parsed, failed, Parser}
use Rattle.vrf_model.specs.Runs.{fields_run, guid_run, object_at}
use Rattle.vrf_model.specs.Block.{BlockCounts, by_table, block}

-- a window is bytes, a first bit and a bit count
pub record Window : Type 0 where
  pub bytes : List ℕ
  pub first : ℕ
  pub count : ℕ

-- the window of all bits of some bytes
unfoldable pub whole : List ℕ → Window
whole s = record { bytes = s; first = 0; count = 8 * length s }

-- lookups of groups: by index, path, tag, leaf or instance name, and what is at a place
pub data GroupLookup : Type 0 where
  get_group_by_index : ℕ → GroupLookup
  get_group_by_path : List ℕ → GroupLookup
  get_gameplay_tag_name : ℕ → GroupLookup
  get_field : ℕ → ℕ → GroupLookup
  unique-leaf-match : List ℕ → GroupLookup
  resolve_cnc_for_instance_name : List ℕ → GroupLookup
  find-class-net-cache-key : List ℕ → GroupLookup
  -- path, index and slot count at a group place, a slot's name
  group_path : ℕ → GroupLookup
  group_index : ℕ → GroupLookup
  group_slots : ℕ → GroupLookup
  field_name : ℕ → ℕ → GroupLookup

-- lookups of GUIDs
pub data GuidLookup : Type 0 where
  get_path_by_guid : ℕ → GuidLookup
  get_outer_guid : ℕ → GuidLookup
  get_outer_path : ℕ → GuidLookup
  -- the path at a GUID place
  guid_path : ℕ → GuidLookup

pub data Lookup : Type 0 where
  of_groups : GroupLookup → Lookup
  of_guids : GuidLookup → Lookup

-- the book calls: those that can change a book, and the lookups
pub data Call : Type 0 where
  clear_book : Call
  add_export_group : List ℕ → ℕ → ℕ → Call
  set_field_on_group : ℕ → ℕ → ℕ → List ℕ → Call
  set_net_guid_path : ℕ → List ℕ → ℕ → Call
  read_net_field_exports : Window → Call
  read_export_guids : Window → Call
  load_object : Window → Bool → ℕ → Call
  read_checkpoint_tables : Window → Call
  lookup : Lookup → Call

pub data Answer : Type 0 where
  -- a refusal carries a number and details a, b
  refusal-of : ℕ → ℕ → ℕ → Answer
  -- `clear` and `set_net_guid_path` answer nothing but that they were done
  acted : Answer
  -- placed or not placed
  field_placed : Bool → Answer
  -- `add_export_group` answers the list place
  at_place : ℕ → Answer
  -- a place in the group list or the GUID list, a GUID or a checksum; or absent
  found : Option ℕ → Answer
  -- runs answer their count, `load_object` its GUID, each with the position after
  ran : ℕ → ℕ → Answer
  -- the seven counts of a block
  block_counts : BlockCounts → Answer
  -- an index or a slot count
  number : ℕ → Answer
  -- a path or a name
  text : List ℕ → Answer

-- what a call answers, the content that it leaves, and what the counters go up by
pub record Result : Type 0 where
  pub answer : Answer
  pub content : Content
  pub counted : Increments

-- caller's text: 40, then 41; both come before every other check of the call. `refuse` makes a refusal of its number, a and b
unfoldable pub if_text_accepted : {A : Type 0} → (ℕ → ℕ → ℕ → A) → CallerText → A → A
if_text_accepted refuse accepted x = x
if_text_accepted refuse (refusal n a b) x = refuse n a b

-- ---- lookups

-- what a lookup of groups answers: it depends on the group list alone
unfoldable pub look_groups : GroupLookup → List Group → Answer
look_groups (get_group_by_index index) groups = found (index_place index groups)
look_groups (get_group_by_path path) groups = if_text_accepted refusal-of (caller_text path) (found (path_place path groups))
look_groups (get_gameplay_tag_name tag) groups = found (gameplay_tag tag groups)
look_groups (get_field place slot) groups = found (slot_checksum (slot_at groups place slot))
look_groups (unique-leaf-match name) groups = if_text_accepted refusal-of (caller_text name) (found (unique_leaf_match name groups))
look_groups (resolve_cnc_for_instance_name name) groups = if_text_accepted refusal-of (caller_text name) (found (resolve_cnc name groups))
look_groups (find-class-net-cache-key path) groups = if_text_accepted refusal-of (caller_text path) (found (find_class_net_cache_key path groups))
look_groups (group_path place) groups = text (path_at groups place)
look_groups (group_index place) groups = number (index_at groups place)
look_groups (group_slots place) groups = number (slots_at groups place)
look_groups (field_name place slot) groups = text (slot_name (slot_at groups place slot))

-- what a lookup of GUIDs answers: it depends on the GUID list alone
unfoldable pub look_guids : GuidLookup → List Guid → Answer
look_guids (get_path_by_guid guid) guids = found (guid_place guid guids)
look_guids (get_outer_guid guid) guids = found (outer_guid guid guids)
look_guids (get_outer_path guid) guids = found (outer_path guid guids)
look_guids (guid_path place) guids = text (place_or (λ r. r.path) [] guids place)

unfoldable pub look : Lookup → Content → Answer
look (of_groups l) c = look_groups l c.groups
look (of_guids l) c = look_guids l c.guids

-- ---- calls

-- no content and no counter changes
unfoldable pub unchanged : Content → Answer → Result
unchanged c a = record { answer = a; content = c; counted = no_increment }

-- a refusal changes no book content or counter, unless the call is a reader
unfoldable pub of_step : {A : Type 0} → (A → Answer) → Content → Step A → Result
of_step f c (done a c' t) = record { answer = f a; content = c'; counted = t }
of_step f c (refuses n a b) = unchanged c (refusal-of n a b)

-- a refused reader leaves all it took before the refused step
unfoldable pub of_parsed : {A : Type 0} → (A → ℕ → Answer) → Parsed A → Result
of_parsed f (parsed a p l c t) = record { answer = f a p; content = c; counted = t }
of_parsed f (failed n a b c t) = record { answer = refusal-of n a b; content = c; counted = t }

-- window: 43 and 15 are checked before anything is read
unfoldable pub read_opened : {A : Type 0} → (A → ℕ → Answer) → Parser A → Content → Read (ℕ × ℕ) → Result
read_opened f r c (ok w p l) = of_parsed f (r p l c no_increment)
read_opened f r c (refused n a b) = unchanged c (refusal-of n a b)

unfoldable pub read_window : {A : Type 0} → Window → (A → ℕ → Answer) → Parser A → Content → Result
read_window w f r c = read_opened f r c (window w.bytes w.first w.count)

-- adding: 22 (a direct call) slots above 65,536
unfoldable pub add_directly : List ℕ → ℕ → ℕ → Content → Step ℕ
add_directly path index slots c = cond (ltb 65536 slots) (refuses 22 slots 0) (add_group path index slots c)

-- what each call answers, the content that it leaves, and what it counts
unfoldable pub run : Call → Content → Result
run clear_book c = of_step (λ u. acted) c (clear c)
run (add_export_group path index slots) c = of_step at_place c (if_text_accepted refuses (caller_text path) (add_directly path index slots c))
run (set_field_on_group index handle checksum name) c = of_step field_placed c (if_text_accepted refuses (caller_text name) (set_field index handle checksum name c))
run (set_net_guid_path guid path outer) c = of_step (λ u. acted) c (if_text_accepted refuses (caller_text path) (set_guid guid path outer c))
run (read_net_field_exports w) c = read_window w ran fields_run c
run (read_export_guids w) c = read_window w ran guid_run c
run (load_object w exporting depth) c = read_window w ran (object_at depth exporting) c
run (read_checkpoint_tables w) c = read_window w (λ n p. block_counts n) (block by_table) c
run (lookup l) c = unchanged c (look l c)

-- a call on a book: the counters go up by what the call counted. The content does not depend on them
unfoldable pub run_book : Call → Book → Book
run_book call b = record { content = (run call b.content).content; counters = stepped b.counters (run call b.content).counted }

-- ---- lists of calls

-- each call gets the book as the one before left it, refused or not
unfoldable pub play : List Call → Book → Book
play [] b = b
play (k ∷ ks) b = play ks (run_book k b)

-- what the calls answer, in order
unfoldable pub answers : List Call → Book → List Answer
answers [] b = []
answers (k ∷ ks) b = (run k b.content).answer ∷ answers ks (run_book k b)
