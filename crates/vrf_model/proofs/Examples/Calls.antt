-- What lists of calls answer, computed: the cases of document 01's calls and checks, and its likely blunders.
use Rattle.std.specs.Prelude.{◌≡◌, refl, true, false, List, [], ◌∷◌, ◌++◌, ℕ, suc, ◌-◌, ◌*◌, ◌^◌, length, replicate}
use Rattle.std.proofs.Math.Option.{none, some}
use Prim.Native.String.{String}
use Rattle.vrf_bitio.specs.Ascii.{ascii}
use Rattle.vrf_bitio.specs.Reading.{ok, refused}
use Rattle.vrf_model.specs.Book.{Book, fresh_book}
use Rattle.vrf_model.specs.Names.{limited}
use Rattle.vrf_model.specs.Writer.{encode_book, written, not_written, write}
use Rattle.vrf_model.specs.Calls.{Call, clear_book, add_export_group, set_field_on_group, set_net_guid_path, read_net_field_exports, read_export_guids, load_object, read_checkpoint_tables}
use Rattle.vrf_model.specs.Calls.{get_group_by_index, get_group_by_path, get_path_by_guid, get_outer_guid, get_outer_path, get_gameplay_tag_name, get_field, unique-leaf-match}
use Rattle.vrf_model.specs.Calls.{resolve_cnc_for_instance_name, find-class-net-cache-key, group_path, group_slots, field_name, guid_path, whole, Answer, refusal-of, acted, field_placed}
use Rattle.vrf_model.specs.Calls.{at_place, found, ran, block_counts, number, text, run_book, play}
use Rattle.vrf_model.proofs.Examples.Computing.{computing}
use Rattle.vrf_model.proofs.Examples.Document01.{◌⇒◌, groups, guids, calls, Answered, opened, after}

-- ---- the book calls

-- add_export_group: append, 23, merge, replace
abbrev adding : List (Call × Answer)
adding =
    add_export_group (ascii "/a") 1 2 ⇒ at_place 0 ∷
    add_export_group (ascii "/b") 2 1 ⇒ at_place 1 ∷
    groups (group_slots 1) ⇒ number 1 ∷
    set_field_on_group 1 0 77 (ascii "N") ⇒ field_placed true ∷
    -- path and index found at different groups
    add_export_group (ascii "/a") 2 0 ⇒ refusal-of 23 2 0 ∷
    -- path found: the group takes the index; its slots and fields stay
    add_export_group (ascii "/a") 3 1 ⇒ at_place 0 ∷
    groups (get_group_by_index 1) ⇒ found none ∷
    groups (get_group_by_index 3) ⇒ found (some 0) ∷
    groups (group_slots 0) ⇒ number 2 ∷
    groups (get_field 0 0) ⇒ found (some 77) ∷
    add_export_group (ascii "/a") 3 4 ⇒ at_place 0 ∷
    groups (group_slots 0) ⇒ number 4 ∷
    -- only the index found: the group is replaced, fields gone
    add_export_group (ascii "/c") 3 1 ⇒ at_place 0 ∷
    groups (group_path 0) ⇒ text (ascii "/c") ∷
    groups (group_slots 0) ⇒ number 1 ∷
    groups (get_field 0 0) ⇒ found none ∷
    groups (get_group_by_path (ascii "/a")) ⇒ found none ∷
    groups (get_group_by_path (ascii "/b")) ⇒ found (some 1) ∷ []

-- set_field_on_group: an unknown index, a handle past the slots
abbrev placing : List (Call × Answer)
placing =
    add_export_group (ascii "/a") 1 2 ⇒ at_place 0 ∷
    set_field_on_group 2 0 5 (ascii "N") ⇒ field_placed false ∷
    set_field_on_group 1 2 5 (ascii "N") ⇒ field_placed false ∷
    set_field_on_group 1 1 5 (ascii "N") ⇒ field_placed true ∷
    groups (get_field 0 1) ⇒ found (some 5) ∷
    groups (field_name 0 1) ⇒ text (ascii "N") ∷
    groups (get_field 0 0) ⇒ found none ∷ []

-- set_net_guid_path: in order of first setting; outer 0 is none
abbrev naming : List (Call × Answer)
naming =
    set_net_guid_path 5 (ascii "P") 7 ⇒ acted ∷
    set_net_guid_path 7 (ascii "Q") 0 ⇒ acted ∷
    set_net_guid_path 5 (ascii "R") 7 ⇒ acted ∷
    guids (get_path_by_guid 5) ⇒ found (some 0) ∷
    guids (guid_path 0) ⇒ text (ascii "R") ∷
    guids (get_outer_guid 5) ⇒ found (some 7) ∷
    guids (get_outer_path 5) ⇒ found (some 1) ∷
    guids (get_outer_guid 7) ⇒ found none ∷
    guids (get_path_by_guid 6) ⇒ found none ∷
    guids (guid_path 2) ⇒ text [] ∷ []

-- the counters: an identical setting steps nothing; `clear` steps both generations and keeps the other three
abbrev stepping : List (Call × Answer)
stepping =
    set_net_guid_path 5 (ascii "P") 0 ⇒ acted ∷
    set_net_guid_path 5 (ascii "P") 0 ⇒ acted ∷
    set_net_guid_path 5 (ascii "P") 7 ⇒ acted ∷
    add_export_group (ascii "/a") 1 1 ⇒ at_place 0 ∷
    set_field_on_group 1 0 5 (ascii "N") ⇒ field_placed true ∷
    set_field_on_group 1 0 6 (ascii "N") ⇒ field_placed true ∷
    set_field_on_group 1 0 6 (ascii "M") ⇒ field_placed true ∷
    set_field_on_group 1 1 6 (ascii "M") ⇒ field_placed false ∷
    set_field_on_group 2 0 6 (ascii "M") ⇒ field_placed false ∷
    add_export_group (ascii "/b") 1 1 ⇒ at_place 0 ∷
    add_export_group (ascii "/b") 1 1 ⇒ at_place 0 ∷
    clear_book ⇒ acted ∷
    groups (group_path 0) ⇒ text [] ∷ []

-- keeping: 42 if a count would pass its allowance, and not before; space from dropped text counts again
abbrev tight : Book
tight = fresh_book (record { guids = 1; groups = 1; fields = 1; text = 4; literals = 1 })

abbrev keeping : List (Call × Answer)
keeping =
    set_net_guid_path 5 (ascii "AB") 0 ⇒ acted ∷
    set_net_guid_path 6 (ascii "ABCDE") 0 ⇒ refusal-of 42 1 0 ∷
    add_export_group (ascii "/") 1 2 ⇒ at_place 0 ∷
    set_net_guid_path 5 (ascii "ABC") 0 ⇒ acted ∷
    add_export_group (ascii "x") 2 0 ⇒ refusal-of 42 2 0 ∷
    set_field_on_group 1 0 9 [] ⇒ field_placed true ∷
    set_field_on_group 1 1 9 [] ⇒ refusal-of 42 3 0 ∷
    set_field_on_group 1 0 9 (ascii "N") ⇒ refusal-of 42 4 0 ∷
    set_net_guid_path 5 (ascii "AB") 0 ⇒ acted ∷
    set_field_on_group 1 0 9 (ascii "N") ⇒ field_placed true ∷
    clear_book ⇒ acted ∷
    set_net_guid_path 6 (ascii "ABCD") 0 ⇒ acted ∷
    set_net_guid_path 5 [] 0 ⇒ refusal-of 42 1 0 ∷ []

-- ---- lookups

-- a second group with a leaf makes its claim ambiguous, and an ambiguous claim ends the resolution
abbrev claiming : List (Call × Answer)
claiming =
    add_export_group (ascii "/X") 1 0 ⇒ at_place 0 ∷
    groups (unique-leaf-match (ascii "X")) ⇒ found none ∷
    add_export_group (ascii "/a.X") 2 0 ⇒ at_place 1 ∷
    groups (unique-leaf-match (ascii "X")) ⇒ found (some 1) ∷
    add_export_group (ascii "/b.X") 3 0 ⇒ at_place 2 ∷
    add_export_group (ascii "/c.XComponent") 4 0 ⇒ at_place 3 ∷
    groups (unique-leaf-match (ascii "X")) ⇒ found none ∷
    groups (unique-leaf-match (ascii "XComponent")) ⇒ found (some 3) ∷
    -- the second group with the leaf is replaced: the first has the leaf alone
    add_export_group (ascii "/b.Y_C") 3 0 ⇒ at_place 2 ∷
    groups (unique-leaf-match (ascii "X")) ⇒ found (some 1) ∷
    groups (unique-leaf-match (ascii "Y")) ⇒ found (some 2) ∷
    groups (unique-leaf-match (ascii "a.X")) ⇒ found none ∷ []

-- no shorter stem after an ambiguous claim
abbrev resolving : List (Call × Answer)
resolving =
    add_export_group (ascii "/a.Foo_1_ClassNetCache") 1 0 ⇒ at_place 0 ∷
    add_export_group (ascii "/b.Foo_1_ClassNetCache") 2 0 ⇒ at_place 1 ∷
    add_export_group (ascii "/c.Foo_ClassNetCache") 3 0 ⇒ at_place 2 ∷
    groups (resolve_cnc_for_instance_name (ascii "Foo_1")) ⇒ found none ∷
    groups (resolve_cnc_for_instance_name (ascii "Foo_2")) ⇒ found (some 2) ∷
    groups (find-class-net-cache-key (ascii "/c.Foo")) ⇒ found (some 2) ∷ []

-- the tag's place is its group's, if the slot is filled
abbrev tagging : List (Call × Answer)
tagging =
    add_export_group (ascii "/a") 1 0 ⇒ at_place 0 ∷
    add_export_group (ascii "NetworkGameplayTagNodeIndex") 2 2 ⇒ at_place 1 ∷
    set_field_on_group 2 1 5 (ascii "N") ⇒ field_placed true ∷
    groups (get_gameplay_tag_name 1) ⇒ found (some 1) ∷
    groups (get_gameplay_tag_name 0) ⇒ found none ∷ []

-- ---- export runs, byte by byte

-- a word below 256, and a text, as bytes
abbrev word : ℕ → List ℕ
word n = n ∷ 0 ∷ 0 ∷ 0 ∷ []

abbrev sent : String → List ℕ
sent s = word (suc (length (ascii s))) ++ ascii s ++ 0 ∷ []

-- a packed number below 128
abbrev small : ℕ → ℕ
small n = 2 * n

-- index 1 declared as `/a` with one slot and a field in it; then an index with a flag
abbrev two-exports : ℕ → ℕ → List ℕ → List ℕ
two-exports index flag more = small 2 ∷ small 1 ∷ small 1 ∷ [] ++ sent "/a" ++ small 1 ∷ 1 ∷ small 0 ∷ [] ++ word 7 ++ 0 ∷ [] ++ sent "N" ++ word 4 ++ small index ∷ small flag ∷ [] ++ more

abbrev exporting : List (Call × Answer)
exporting =
    read_net_field_exports (whole (two-exports 2 1 (sent "/b" ++ small 3 ∷ 0 ∷ []))) ⇒ ran 2 (8 * 39) ∷
    groups (field_name 0 0) ⇒ text (ascii "N_3") ∷
    groups (get_field 0 0) ⇒ found (some 7) ∷
    groups (group_path 1) ⇒ text (ascii "/b") ∷
    groups (group_slots 1) ⇒ number 3 ∷ []

-- a refused run leaves all it took before the refused step
abbrev exporting-stops : List (Call × Answer)
exporting-stops =
    read_net_field_exports (whole (two-exports 2 0 (0 ∷ []))) ⇒ refusal-of 20 2 0 ∷
    groups (group_path 0) ⇒ text (ascii "/a") ∷
    read_net_field_exports (whole (two-exports 1 2 (0 ∷ []))) ⇒ refusal-of 21 1 2 ∷
    read_net_field_exports (whole (two-exports 1 0 [])) ⇒ refusal-of 10 (8 * 30) 8 ∷
    read_net_field_exports (whole (two-exports 1 1 (sent "/a" ++ 3 ∷ 1 ∷ 8 ∷ []))) ⇒ refusal-of 22 65537 0 ∷ []

-- 65,536 slots pass
abbrev exporting-many : List (Call × Answer)
exporting-many =
    read_net_field_exports (whole (small 1 ∷ small 1 ∷ small 1 ∷ [] ++ sent "/a" ++ 1 ∷ 1 ∷ 8 ∷ 0 ∷ [])) ⇒ ran 1 (8 * 14) ∷
    groups (group_slots 0) ⇒ number 65536 ∷ []

-- GUID 5 with a path and a checksum; its outer, GUID 7, is recorded first
abbrev one-object : ℕ → List ℕ → List ℕ
one-object size more = small 1 ∷ [] ++ word size ++ small 5 ∷ 0xFD ∷ small 7 ∷ 1 ∷ 0 ∷ [] ++ sent "Q" ++ sent "P" ++ word 9 ++ more

abbrev exporting-guids : List (Call × Answer)
exporting-guids =
    read_export_guids (whole (one-object 21 [])) ⇒ ran 1 (8 * 26) ∷
    guids (guid_path 0) ⇒ text (ascii "Q") ∷
    guids (guid_path 1) ⇒ text (ascii "P") ∷
    guids (get_outer_guid 5) ⇒ found (some 7) ∷
    guids (get_outer_guid 7) ⇒ found none ∷
    read_export_guids (whole (one-object 22 (0 ∷ []))) ⇒ refusal-of 25 1 0 ∷
    read_export_guids (whole (one-object 2 [])) ⇒ refusal-of 10 (8 * 2) 8 ∷
    read_export_guids (whole (small 1 ∷ 0 ∷ 0 ∷ 0 ∷ 0x80 ∷ [])) ⇒ refusal-of 24 0x80000000 0 ∷
    read_export_guids (whole (small 1 ∷ 0xFF ∷ 0xFF ∷ 0xFF ∷ 0x7F ∷ [])) ⇒ refusal-of 10 (8 * 5) (8 * 0x7FFFFFFF) ∷
    read_export_guids (whole (one-object 22 [])) ⇒ refusal-of 10 (8 * 5) (8 * 22) ∷
    load_object (whole (small 5 ∷ 1 ∷ [])) false 0 ⇒ ran 5 8 ∷
    load_object (whole (small 1 ∷ 0 ∷ [])) false 15 ⇒ ran 1 16 ∷
    load_object (whole (small 5 ∷ [])) false 16 ⇒ refusal-of 26 16 0 ∷ []

-- ---- blocks, byte by byte

abbrev head : ℕ → List ℕ
head w = word w ++ word 0 ++ word 0 ++ word 0

-- GUID 2 with the literal `A`; GUID 3, with outer 2, with a place among the literals
abbrev two-guids : ℕ → ℕ → List ℕ
two-guids w place = head w ++ word 2 ++ small 2 ∷ small 0 ∷ 1 ∷ [] ++ sent "A" ++ 0 ∷ small 3 ∷ small 2 ∷ 0 ∷ small place ∷ 0 ∷ [] ++ word 0

abbrev reading-guids : List (Call × Answer)
reading-guids =
    read_checkpoint_tables (whole (two-guids 31 0)) ⇒ block_counts (record { guids = 2; groups = 0; fields = 0; frame = 39; indexed = 1; literals = 1; resolved = 1 }) ∷
    guids (guid_path 1) ⇒ text (ascii "A") ∷
    guids (get_outer_guid 3) ⇒ found (some 2) ∷
    clear_book ⇒ acted ∷
    read_checkpoint_tables (whole (two-guids 31 1)) ⇒ refusal-of 33 1 1 ∷
    guids (guid_path 0) ⇒ text (ascii "A") ∷
    guids (guid_path 1) ⇒ text [] ∷
    read_checkpoint_tables (whole (two-guids 32 0)) ⇒ refusal-of 36 39 40 ∷ []

-- two literals where one is allowed
abbrev reading-literals : List (Call × Answer)
reading-literals =
    read_checkpoint_tables (whole (head 20 ++ word 2 ++ small 2 ∷ small 0 ∷ 1 ∷ [] ++ sent "A" ++ 0 ∷ small 2 ∷ small 0 ∷ 1 ∷ [] ++ sent "A")) ⇒ refusal-of 42 5 0 ∷
    guids (guid_path 0) ⇒ text (ascii "A") ∷ []

-- GUID 2 with outer 3, and a group `/a` with an empty slot and a field
abbrev one_field : ℕ → List ℕ
one_field handle = head 53 ++ word 1 ++ small 2 ∷ small 3 ∷ 1 ∷ [] ++ sent "A" ++ 0 ∷ [] ++ word 1 ++ sent "/a" ++ small 1 ∷ small 2 ∷ 0 ∷ 1 ∷ small handle ∷ [] ++ word 7 ++ 0 ∷ [] ++ sent "N" ++ word 0

abbrev one-field-held : List (Call × Answer)
one-field-held =
    set_net_guid_path 2 (ascii "A") 3 ⇒ acted ∷
    add_export_group (ascii "/a") 1 2 ⇒ at_place 0 ∷
    set_field_on_group 1 1 7 (ascii "N") ⇒ field_placed true ∷ []

abbrev reading-fields : List (Call × Answer)
reading-fields =
    read_checkpoint_tables (whole (one_field 1)) ⇒ block_counts (record { guids = 1; groups = 1; fields = 1; frame = 61; indexed = 0; literals = 1; resolved = 0 }) ∷
    guids (get_outer_guid 2) ⇒ found (some 3) ∷
    groups (get_field 0 0) ⇒ found none ∷
    groups (get_field 0 1) ⇒ found (some 7) ∷
    groups (field_name 0 1) ⇒ text (ascii "N") ∷
    read_checkpoint_tables (whole (one_field 1)) ⇒ refusal-of 34 1 0 ∷
    clear_book ⇒ acted ∷
    read_checkpoint_tables (whole (one_field 2)) ⇒ refusal-of 35 1 2 ∷
    groups (group_slots 0) ⇒ number 2 ∷ []

-- a word set, counts above their tops, a kind that is neither 0 nor 1
abbrev reading-refused : List (Call × Answer)
reading-refused =
    read_checkpoint_tables (whole (word 0 ++ word 0 ++ word 5)) ⇒ refusal-of 30 8 5 ∷
    read_checkpoint_tables (whole (head 0 ++ 0x41 ∷ 0x42 ∷ 0x0F ∷ 0 ∷ [])) ⇒ refusal-of 31 1 1000001 ∷
    read_checkpoint_tables (whole (head 0 ++ 0x40 ∷ 0x42 ∷ 0x0F ∷ 0 ∷ [])) ⇒ refusal-of 10 (8 * 20) 8 ∷
    read_checkpoint_tables (whole (head 0 ++ word 0 ++ 0xA1 ∷ 0x86 ∷ 1 ∷ 0 ∷ [])) ⇒ refusal-of 31 2 100001 ∷
    read_checkpoint_tables (whole (head 0 ++ word 0 ++ 0xA0 ∷ 0x86 ∷ 1 ∷ 0 ∷ [])) ⇒ refusal-of 10 (8 * 24) 32 ∷
    read_checkpoint_tables (whole (head 0 ++ word 0 ++ word 1 ++ sent "/a" ++ small 1 ∷ 3 ∷ 1 ∷ 8 ∷ [])) ⇒ refusal-of 31 3 65537 ∷
    read_checkpoint_tables (whole (head 0 ++ word 1 ++ small 2 ∷ small 0 ∷ 2 ∷ [])) ⇒ refusal-of 32 0 2 ∷ []

-- a group whose path is a key of the group two places before it: writing is 44, which comes before 45; reading its block is 34
abbrev clashing : List (Call × Answer)
clashing =
    add_export_group (ascii "/a") 5 0 ⇒ at_place 0 ∷
    add_export_group (ascii "/b") 6 0 ⇒ at_place 1 ∷
    add_export_group (ascii "/x/y") 7 0 ⇒ at_place 2 ∷
    add_export_group (ascii "/x/_Core/y") 5 0 ⇒ at_place 0 ∷ []

abbrev reading-clash : List (Call × Answer)
reading-clash =
    read_checkpoint_tables (whole (encode_book (after clashing))) ⇒ refusal-of 34 7 0 ∷
    groups (group_path 1) ⇒ text (ascii "/b") ∷
    groups (group_path 2) ⇒ text [] ∷ []

-- `tally` on W=16 and five zero words
abbrev reading-nothing : List (Call × Answer)
reading-nothing =
    read_checkpoint_tables (whole (head 16 ++ word 0 ++ word 0)) ⇒ block_counts (record { guids = 0; groups = 0; fields = 0; frame = 24; indexed = 0; literals = 0; resolved = 0 }) ∷ []

-- ---- an early and a late reader

-- a book whose schema generation is 8, and one that has read its block
abbrev early : Book
early = play (replicate 8 (add_export_group (ascii "/a") 1 1)) opened

abbrev late : Book
late = run_book (read_checkpoint_tables (whole (encode_book early.content))) opened

abbrev further : List (Call × Answer)
further =
    set_field_on_group 1 0 5 (ascii "N") ⇒ field_placed true ∷
    add_export_group (ascii "/b") 2 0 ⇒ at_place 1 ∷
    groups (field_name 0 0) ⇒ text (ascii "N") ∷ []

-- with fewer literals than GUIDs allowed, the late reader is refused, though writing is not
abbrev sparse : Book
sparse = fresh_book (record { guids = 2; groups = 1; fields = 1; text = 10; literals = 1 })

abbrev two-named : List (Call × Answer)
two-named =
    set_net_guid_path 5 (ascii "P") 0 ⇒ acted ∷
    set_net_guid_path 6 (ascii "Q") 0 ⇒ acted ∷ []

abbrev two-joining : List (Call × Answer)
two-joining = read_checkpoint_tables (whole (encode_book (play (calls two-named) sparse).content)) ⇒ refusal-of 42 5 0 ∷ []

-- every counter at 2^64 - 1
abbrev full : Book
full = record { content = opened.content; counters = record { schema = 2 ^ 64 - 1; guid = 2 ^ 64 - 1; dropped = 2 ^ 64 - 1; replaced = 2 ^ 64 - 1; renamed = 2 ^ 64 - 1 } }

pub record Case-answers : Type 0 where
  pub added : Answered adding opened
  pub placed : Answered placing opened
  pub named : Answered naming opened
  pub stepped : Answered stepping opened
  pub tallied : (play (calls stepping) opened).counters ≡ record { schema = 4; guid = 3; dropped = 2; replaced = 1; renamed = 1 }
  pub kept : Answered keeping tight
  pub claimed : Answered claiming opened
  pub resolved : Answered resolving opened
  pub tagged : Answered tagging opened
  pub exported : Answered exporting opened
  pub exports-stopped : Answered exporting-stops opened
  pub many-exported : Answered exporting-many opened
  pub guids-exported : Answered exporting-guids opened
  pub guids-read : Answered reading-guids opened
  pub literals-read : Answered reading-literals tight
  pub fields-written : encode_book (after one-field-held) ≡ one_field 1
  pub fields_read : Answered reading-fields opened
  pub block_refused : Answered reading-refused opened
  pub clashed : Answered clashing opened
  pub clash-written : write 0 (after clashing) ≡ not_written 44 2 0
  pub clash_read : Answered reading-clash opened
  pub nothing_read : Answered reading-nothing opened
  pub early-reader : Answered further early
  pub late-reader : Answered further late
  pub two-named-early : Answered two-named sparse
  pub two-written : write 44 (play (calls two-named) sparse).content ≡ written 44
  pub two-refused : Answered two-joining sparse
  pub tops-passed : (play (calls stepping) full).counters ≡ record { schema = 3; guid = 2; dropped = 1; replaced = 0; renamed = 0 }
  pub name-fits : limited (replicate 4096 65) 0 [] ≡ ok (replicate 4096 65) 0 []
  pub name-too-long : limited (replicate 4097 65) 0 [] ≡ refused 41 4097 0

pub case-answers : Case-answers
unfolding computing ascii opened
case-answers = record {
  added = refl;
  placed = refl;
  named = refl;
  stepped = refl;
  tallied = refl;
  kept = refl;
  claimed = refl;
  resolved = refl;
  tagged = refl;
  exported = refl;
  exports-stopped = refl;
  many-exported = refl;
  guids-exported = refl;
  guids-read = refl;
  literals-read = refl;
  fields-written = refl;
  fields_read = refl;
  block_refused = refl;
  clashed = refl;
  clash-written = refl;
  clash_read = refl;
  nothing_read = refl;
  early-reader = refl;
  late-reader = refl;
  two-named-early = refl;
  two-written = refl;
  two-refused = refl;
  tops-passed = refl;
  name-fits = refl;
  name-too-long = refl;
}
