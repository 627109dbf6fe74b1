-- Rules of document 01 that the other examples do not show: what lists of calls answer, computed. Each rule is a declaration of its own, so
-- a wrong definition is refused at the name of its rule.
use Rattle.std.specs.Prelude.{◌≡◌, refl, true, false, List, [], ◌∷◌, ◌++◌, ℕ, replicate}
use Rattle.std.proofs.Math.Option.{none, some}
use Prim.Native.String.{String}
use Rattle.vrf_bitio.specs.Ascii.{ascii}
use Rattle.vrf_bitio.specs.Number.{encode_packed, encode_word32}
use Rattle.vrf_text.specs.Text.{encode_text}
use Rattle.vrf_model.specs.Book.{Book, zero_counters, fresh_book}
use Rattle.vrf_model.specs.Writer.{written, not_written, write}
use Rattle.vrf_model.specs.Calls.{whole, Call, clear_book, add_export_group, set_field_on_group, set_net_guid_path, read_net_field_exports, read_export_guids, load_object}
use Rattle.vrf_model.specs.Calls.{read_checkpoint_tables, get_group_by_path, get_gameplay_tag_name, get_field, unique-leaf-match, resolve_cnc_for_instance_name, find-class-net-cache-key}
use Rattle.vrf_model.specs.Calls.{field_name, guid_path, Answer, refusal-of, acted, field_placed, at_place, found, ran, block_counts, text, play}
use Rattle.vrf_model.proofs.Examples.Computing.{computing}
use Rattle.vrf_model.proofs.Examples.Document01.{◌⇒◌, groups, guids, Answered, opened, after}

-- a book opened with five allowances
abbrev allowing : ℕ → ℕ → ℕ → ℕ → ℕ → Book
allowing guids groups fields bytes literals = fresh_book (record { guids = guids; groups = groups; fields = fields; text = bytes; literals = literals })

-- ---- keys, by path lookup

-- default alias: only a path with none of `/ . :` gets `Default__` before it
pub default-alias-of-a-bare-path : Answered (
    add_export_group (ascii "q.b") 1 0 ⇒ at_place 0 ∷
    groups (get_group_by_path (ascii "Default__q.b")) ⇒ found none ∷
    add_export_group (ascii "q:b") 2 0 ⇒ at_place 1 ∷
    groups (get_group_by_path (ascii "Default__q:b")) ⇒ found none ∷
    add_export_group (ascii "q/b") 3 0 ⇒ at_place 2 ∷
    groups (get_group_by_path (ascii "Default__q/b")) ⇒ found none ∷
    add_export_group (ascii "qb") 4 0 ⇒ at_place 3 ∷
    groups (get_group_by_path (ascii "Default__qb")) ⇒ found (some 3) ∷ [])
    opened
unfolding computing ascii opened
default-alias-of-a-bare-path = refl

-- default alias: a leading `Default__` is removed once, in exactly these letters, with both underscores
pub default-prefix-left-out : Answered (
    add_export_group (ascii "Default__Default__A") 1 0 ⇒ at_place 0 ∷
    groups (get_group_by_path (ascii "A")) ⇒ found none ∷
    groups (get_group_by_path (ascii "Default__A")) ⇒ found (some 0) ∷
    add_export_group (ascii "default__B") 2 0 ⇒ at_place 1 ∷
    groups (get_group_by_path (ascii "B")) ⇒ found none ∷
    add_export_group (ascii "Default_C") 3 0 ⇒ at_place 2 ∷
    groups (get_group_by_path (ascii "C")) ⇒ found none ∷
    groups (get_group_by_path []) ⇒ found none ∷ [])
    opened
unfolding computing ascii opened
default-prefix-left-out = refl

-- core alias: the first `/_Core/` becomes `/`, and no later one does
pub first-core-segment : Answered (
    add_export_group (ascii "/_Core/a/_Core/b") 1 0 ⇒ at_place 0 ∷
    groups (get_group_by_path (ascii "/a/b")) ⇒ found none ∷
    groups (get_group_by_path (ascii "/a/_Core/b")) ⇒ found (some 0) ∷ [])
    opened
unfolding computing ascii opened
first-core-segment = refl

-- core alias: `/_Core/` has both slashes; a path without it that starts with `/Game/Characters/` gets `_Core/` after that
pub core-segment-inserted : Answered (
    add_export_group (ascii "/Game/Characters/a/_CoreB") 1 0 ⇒ at_place 0 ∷
    groups (get_group_by_path (ascii "/Game/Characters/_Core/a/_CoreB")) ⇒ found (some 0) ∷
    add_export_group (ascii "/Game/Characters/") 2 0 ⇒ at_place 1 ∷
    groups (get_group_by_path (ascii "/Game/Characters/_Core/")) ⇒ found (some 1) ∷
    add_export_group (ascii "x/Game/Characters/y") 3 0 ⇒ at_place 2 ∷
    groups (get_group_by_path (ascii "/Game/Characters/_Core//y")) ⇒ found none ∷
    groups (get_group_by_path (ascii "x/Game/Characters/_Core/y")) ⇒ found none ∷ [])
    opened
unfolding computing ascii opened
core-segment-inserted = refl

-- keys: a path can have both a default alias and a core alias
pub both-aliases : Answered (
    add_export_group (ascii "Default__/x/_Core/y") 1 0 ⇒ at_place 0 ∷
    groups (get_group_by_path (ascii "/x/_Core/y")) ⇒ found (some 0) ∷
    groups (get_group_by_path (ascii "Default__/x/y")) ⇒ found (some 0) ∷
    groups (get_group_by_path (ascii "/x/y")) ⇒ found none ∷ [])
    opened
unfolding computing ascii opened
both-aliases = refl

-- ---- claims and resolutions

-- a leaf is the text after the last dot, not after another separator; letters are compared exactly
pub leaf-after-the-last-dot : Answered (
    add_export_group (ascii "/a.b:c") 1 0 ⇒ at_place 0 ∷
    groups (unique-leaf-match (ascii "c")) ⇒ found none ∷
    add_export_group (ascii "/a.d/e") 2 0 ⇒ at_place 1 ∷
    groups (unique-leaf-match (ascii "e")) ⇒ found none ∷
    add_export_group (ascii "/a.b.Foo") 3 0 ⇒ at_place 2 ∷
    groups (unique-leaf-match (ascii "foo")) ⇒ found none ∷
    groups (unique-leaf-match (ascii "Foo")) ⇒ found (some 2) ∷ [])
    opened
unfolding computing ascii opened
leaf-after-the-last-dot = refl

-- ambiguous if several groups have the leaf, even if their paths are equal
pub ambiguous-with-equal-paths : Answered (
    add_export_group (ascii "/x/y.L") 1 0 ⇒ at_place 0 ∷
    add_export_group (ascii "/x/_Core/y.L") 2 0 ⇒ at_place 1 ∷
    add_export_group (ascii "/x/y.L") 2 0 ⇒ at_place 1 ∷
    groups (unique-leaf-match (ascii "L")) ⇒ found none ∷ [])
    opened
unfolding computing ascii opened
ambiguous-with-equal-paths = refl

-- `unique_leaf_match` tries name, name+`Component`, name+`_C`
pub name-leaves-in-order : Answered (
    add_export_group (ascii "/a.Foo_C") 1 0 ⇒ at_place 0 ∷
    groups (unique-leaf-match (ascii "Foo")) ⇒ found (some 0) ∷
    add_export_group (ascii "/a.FooComponent") 2 0 ⇒ at_place 1 ∷
    groups (unique-leaf-match (ascii "Foo")) ⇒ found (some 1) ∷
    add_export_group (ascii "/a.Foo") 3 0 ⇒ at_place 2 ∷
    groups (unique-leaf-match (ascii "Foo")) ⇒ found (some 2) ∷ [])
    opened
unfolding computing ascii opened
name-leaves-in-order = refl

-- `unique_leaf_match`: a name with `/ . :` gets none, though a group has it as its leaf
pub leaf-name-with-a-separator : Answered (
    add_export_group (ascii "/d.a:b") 1 0 ⇒ at_place 0 ∷
    groups (unique-leaf-match (ascii "a:b")) ⇒ found none ∷
    add_export_group (ascii "/a.b/c") 2 0 ⇒ at_place 1 ∷
    groups (unique-leaf-match (ascii "b/c")) ⇒ found none ∷ [])
    opened
unfolding computing ascii opened
leaf-name-with-a-separator = refl

-- resolve.rs: an instance name with `/ . :` gets none, though a group has the leaf of the name or of a shorter stem
pub instance-name-with-a-separator : Answered (
    add_export_group (ascii "/d.a:b_ClassNetCache") 1 0 ⇒ at_place 0 ∷
    groups (resolve_cnc_for_instance_name (ascii "a:b")) ⇒ found none ∷
    add_export_group (ascii "/a.d/c_ClassNetCache") 2 0 ⇒ at_place 1 ∷
    groups (resolve_cnc_for_instance_name (ascii "d/c")) ⇒ found none ∷
    add_export_group (ascii "/d.Foo_ClassNetCache") 3 0 ⇒ at_place 2 ∷
    groups (resolve_cnc_for_instance_name (ascii "Foo_a.b")) ⇒ found none ∷
    groups (resolve_cnc_for_instance_name (ascii "Foo_a")) ⇒ found (some 2) ∷ [])
    opened
unfolding computing ascii opened
instance-name-with-a-separator = refl

-- resolve.rs: a stem is tried with `_ClassNetCache`, with `Component_ClassNetCache` and then with `_C_ClassNetCache`
pub stem-leaves-in-order : Answered (
    add_export_group (ascii "/a.Foo_C_ClassNetCache") 1 0 ⇒ at_place 0 ∷
    groups (resolve_cnc_for_instance_name (ascii "Foo")) ⇒ found (some 0) ∷
    add_export_group (ascii "/a.FooComponent_ClassNetCache") 2 0 ⇒ at_place 1 ∷
    groups (resolve_cnc_for_instance_name (ascii "Foo")) ⇒ found (some 1) ∷
    add_export_group (ascii "/a.Foo_ClassNetCache") 3 0 ⇒ at_place 2 ∷
    groups (resolve_cnc_for_instance_name (ascii "Foo")) ⇒ found (some 2) ∷ [])
    opened
unfolding computing ascii opened
stem-leaves-in-order = refl

-- resolve.rs: stems cut at an underscore come before the stem without digits
pub cuts-before-digits : Answered (
    add_export_group (ascii "/a.A_ClassNetCache") 1 0 ⇒ at_place 0 ∷
    add_export_group (ascii "/a.A_B_ClassNetCache") 2 0 ⇒ at_place 1 ∷
    groups (resolve_cnc_for_instance_name (ascii "A_B1")) ⇒ found (some 0) ∷ [])
    opened
unfolding computing ascii opened
cuts-before-digits = refl

-- resolve.rs: trailing digits are ASCII digits, with 9 but not `²` (C2 B2); the capital before them is an ASCII capital, with Z
pub digits-and-capital : Answered (
    add_export_group (ascii "/a.foo_ClassNetCache") 1 0 ⇒ at_place 0 ∷
    groups (resolve_cnc_for_instance_name (ascii "foo9")) ⇒ found (some 0) ∷
    groups (resolve_cnc_for_instance_name (ascii "fooZ1")) ⇒ found (some 0) ∷
    groups (resolve_cnc_for_instance_name (ascii "foo" ++ 0xC2 ∷ 0xB2 ∷ [])) ⇒ found none ∷ [])
    opened
unfolding computing ascii opened
digits-and-capital = refl

-- path.rs: `find_class_net_cache_key` tries the path, its default alias and its core alias, each followed by its toggle. The groups are
-- added from the last key to the first, and each new one is found
pub class-net-cache-keys-in-order : Answered (
    add_export_group (ascii "Default__/x/y_ClassNetCache") 1 0 ⇒ at_place 0 ∷
    groups (find-class-net-cache-key (ascii "Default__/x/_Core/y")) ⇒ found (some 0) ∷
    add_export_group (ascii "Default__/x/y") 2 0 ⇒ at_place 1 ∷
    groups (find-class-net-cache-key (ascii "Default__/x/_Core/y")) ⇒ found (some 1) ∷
    add_export_group (ascii "/x/_Core/y_ClassNetCache") 3 0 ⇒ at_place 2 ∷
    groups (find-class-net-cache-key (ascii "Default__/x/_Core/y")) ⇒ found (some 2) ∷
    add_export_group (ascii "/x/_Core/y") 4 0 ⇒ at_place 3 ∷
    groups (find-class-net-cache-key (ascii "Default__/x/_Core/y")) ⇒ found (some 3) ∷
    add_export_group (ascii "Default__/x/_Core/y_ClassNetCache") 5 0 ⇒ at_place 4 ∷
    groups (find-class-net-cache-key (ascii "Default__/x/_Core/y")) ⇒ found (some 4) ∷
    add_export_group (ascii "Default__/x/_Core/y") 6 0 ⇒ at_place 5 ∷
    groups (find-class-net-cache-key (ascii "Default__/x/_Core/y")) ⇒ found (some 5) ∷ [])
    opened
unfolding computing ascii opened
class-net-cache-keys-in-order = refl

-- a slot past the group's slots: absent, absent, empty
pub slot-past-the-group : Answered (
    add_export_group (ascii "NetworkGameplayTagNodeIndex") 1 1 ⇒ at_place 0 ∷
    set_field_on_group 1 0 7 (ascii "N") ⇒ field_placed true ∷
    groups (get_gameplay_tag_name 65536) ⇒ found none ∷
    groups (get_field 0 65536) ⇒ found none ∷
    groups (field_name 0 65536) ⇒ text [] ∷ [])
    opened
unfolding computing ascii opened
slot-past-the-group = refl

-- ---- callers' text: 40 and then 41, before every other check

-- a call refuses bytes that are not UTF-8, too many bytes, and too many bytes that are not UTF-8
abbrev Refuses-texts : (List ℕ → Call) → Book → Type 0
Refuses-texts call b =
    Answered (call (0xFF ∷ []) ⇒ refusal-of 40 0 0 ∷ []) b
    × Answered (call (replicate 4097 65) ⇒ refusal-of 41 4097 0 ∷ []) b
    × Answered (call (replicate 4096 65 ++ 0xFF ∷ []) ⇒ refusal-of 40 0 0 ∷ []) b

-- `add_export_group`: 40 and 41 come before 22; 65,537 slots are too many
pub adding-text-before-22 : Refuses-texts (λ path. add_export_group path 1 65537) opened
unfolding computing ascii opened
adding-text-before-22 = (refl, refl, refl)

-- a path of 4,105 bytes whose default alias, of 4,096, is the first group's
abbrev overlong : List ℕ
overlong = ascii "Default__" ++ replicate 4096 65

abbrev holding : Book
holding = play (add_export_group (replicate 4096 65) 1 0 ∷ add_export_group (ascii "b") 2 0 ∷ []) (allowing 0 2 0 4097 0)

-- `add_export_group`: 41 comes before 23; path and index are found at different groups
pub adding-text-before-23 : Answered (
    add_export_group overlong 2 0 ⇒ refusal-of 41 4105 0 ∷ [])
    holding
unfolding computing ascii opened
adding-text-before-23 = refl

-- `get_group_by_path`: 41 comes before the lookup, which would find that key; 4,096 bytes are not too many
pub path-text-before-its-group : Answered (
    groups (get_group_by_path overlong) ⇒ refusal-of 41 4105 0 ∷
    groups (get_group_by_path (replicate 4096 65)) ⇒ found (some 0) ∷ [])
    holding
unfolding computing ascii opened
path-text-before-its-group = refl

-- `add_export_group`: 40 and 41 come before 42; the book may hold no group
pub adding-text-before-42 : Refuses-texts (λ path. add_export_group path 1 0) (allowing 0 0 0 0 0)
unfolding computing ascii opened
adding-text-before-42 = (refl, refl, refl)

-- `set_field_on_group`: 40 and 41 come before 'not placed'; no group has index 1
pub field-text : Refuses-texts (set_field_on_group 1 0 5) opened
unfolding computing ascii opened
field-text = (refl, refl, refl)

-- `set_field_on_group`: a refused name counts no drop
pub field-text-drops-nothing : (play (set_field_on_group 1 0 5 (0xFF ∷ []) ∷ []) opened).counters ≡ zero_counters
unfolding computing ascii opened
field-text-drops-nothing = refl

-- `set_field_on_group`: 40 and 41 come before 42; the book has slot 0 of index 1 and may hold no field
pub field-text-before-42 : Refuses-texts (set_field_on_group 1 0 5) (play (add_export_group [] 1 1 ∷ []) (allowing 0 1 0 0 0))
unfolding computing ascii opened
field-text-before-42 = (refl, refl, refl)

-- `set_net_guid_path`: 40 and 41 come before 42; the book may hold no GUID
pub guid-text-before-42 : Refuses-texts (λ path. set_net_guid_path 5 path 0) (allowing 0 0 0 0 0)
unfolding computing ascii opened
guid-text-before-42 = (refl, refl, refl)

-- `get_group_by_path`: 40, then 41
pub path-text : Refuses-texts (λ path. groups (get_group_by_path path)) opened
unfolding computing ascii opened
path-text = (refl, refl, refl)

-- `unique_leaf_match`: 40, then 41
pub leaf-text : Refuses-texts (λ path. groups (unique-leaf-match path)) opened
unfolding computing ascii opened
leaf-text = (refl, refl, refl)

-- `resolve_cnc_for_instance_name`: 40, then 41
pub instance-text : Refuses-texts (λ path. groups (resolve_cnc_for_instance_name path)) opened
unfolding computing ascii opened
instance-text = (refl, refl, refl)

-- `find_class_net_cache_key`: 40, then 41
pub class-net-cache-text : Refuses-texts (λ path. groups (find-class-net-cache-key path)) opened
unfolding computing ascii opened
class-net-cache-text = (refl, refl, refl)

-- `unique_leaf_match`: 40 comes before the test for `/ . :`
pub leaf-text-before-separators : Answered (
    groups (unique-leaf-match (47 ∷ 0xFF ∷ [])) ⇒ refusal-of 40 0 0 ∷ [])
    opened
unfolding computing ascii opened
leaf-text-before-separators = refl

-- `resolve_cnc_for_instance_name`: 40 comes before the test for `/ . :`
pub instance-text-before-separators : Answered (
    groups (resolve_cnc_for_instance_name (47 ∷ 0xFF ∷ [])) ⇒ refusal-of 40 0 0 ∷ [])
    opened
unfolding computing ascii opened
instance-text-before-separators = refl

-- ---- allowances

-- 42, lowest first: a GUID with a path would pass allowances 1 and 4
pub guids-before-text : Answered (
    set_net_guid_path 5 (ascii "A") 0 ⇒ refusal-of 42 1 0 ∷ [])
    (allowing 0 1 0 0 0)
unfolding computing ascii opened
guids-before-text = refl

-- 42, lowest first: a group with a path would pass allowances 2 and 4
pub groups-before-text : Answered (
    add_export_group [] 1 1 ⇒ at_place 0 ∷
    add_export_group (ascii "A") 2 0 ⇒ refusal-of 42 2 0 ∷ [])
    (allowing 0 1 0 0 0)
unfolding computing ascii opened
groups-before-text = refl

-- 42, lowest first: a field with a name would pass allowances 3 and 4
pub fields-before-text : Answered (
    add_export_group [] 1 1 ⇒ at_place 0 ∷
    set_field_on_group 1 0 5 (ascii "N") ⇒ refusal-of 42 3 0 ∷
    set_field_on_group 1 0 5 [] ⇒ refusal-of 42 3 0 ∷ [])
    (allowing 0 1 0 0 0)
unfolding computing ascii opened
fields-before-text = refl

-- `clear` drops the fields, and dropped fields do not count against allowance 3
pub clear-frees-fields : Answered (
    add_export_group (ascii "a") 1 1 ⇒ at_place 0 ∷
    set_field_on_group 1 0 5 (ascii "N") ⇒ field_placed true ∷
    clear_book ⇒ acted ∷
    add_export_group (ascii "a") 1 1 ⇒ at_place 0 ∷
    set_field_on_group 1 0 5 (ascii "N") ⇒ field_placed true ∷ [])
    (allowing 9 9 1 900 9)
unfolding computing ascii opened
clear-frees-fields = refl

-- ---- export runs, byte by byte

-- an export of group 1 with a field: the byte before the field, its handle, and its name by kind and index
abbrev exported : ℕ → ℕ → ℕ → ℕ → List ℕ
exported hasField handle kind index = encode_packed 1 ++ encode_packed 0 ++ hasField ∷ encode_packed handle ++ encode_word32 7 ++ kind ∷ encode_packed index

-- `read_net_field_exports`: a field follows any byte but 0
pub any-field-byte : Answered (
    add_export_group (ascii "/a") 1 2 ⇒ at_place 0 ∷
    read_net_field_exports (whole (encode_packed 2 ++ exported 2 0 1 12 ++ exported 255 1 1 12)) ⇒ ran 2 168 ∷
    groups (get_field 0 0) ⇒ found (some 7) ∷
    groups (get_field 0 1) ⇒ found (some 7) ∷ [])
    opened
unfolding computing ascii opened
any-field-byte = refl

-- a field name's kind byte, nonzero: a packed index, rendered in decimal
pub any-name-kind : Answered (
    add_export_group (ascii "/a") 1 2 ⇒ at_place 0 ∷
    read_net_field_exports (whole (encode_packed 2 ++ exported 1 0 2 12 ++ exported 1 1 255 13)) ⇒ ran 2 168 ∷
    groups (field_name 0 0) ⇒ text (ascii "12") ∷
    groups (field_name 0 1) ⇒ text (ascii "13") ∷ [])
    opened
unfolding computing ascii opened
any-name-kind = refl

-- 25 gives how many whole bytes are left: GUID 0 takes one of eight
pub bytes_left : Answered (
    read_export_guids (whole (encode_packed 1 ++ encode_word32 8 ++ replicate 8 0)) ⇒ refusal-of 25 7 0 ∷ [])
    opened
unfolding computing ascii opened
bytes_left = refl

-- GUIDs 2 to 16, each with the next as its outer; the path of each comes after its outer
abbrev fifteen : List ℕ
fifteen =
    4 ∷ 1 ∷ 6 ∷ 1 ∷ 8 ∷ 1 ∷ 10 ∷ 1 ∷ 12 ∷ 1 ∷ 14 ∷ 1 ∷ 16 ∷ 1 ∷ 18 ∷ 1 ∷ 20 ∷ 1 ∷ 22 ∷ 1 ∷ 24 ∷ 1 ∷ 26 ∷ 1 ∷ 28 ∷ 1 ∷ 30 ∷ 1 ∷ 32 ∷ 1 ∷ []

-- the first object of a payload has depth 0: after fifteen objects GUID 0 is at depth 15, and after sixteen at depth 16
pub payload-at-depth-0 : Answered (
    read_export_guids (whole (encode_packed 1 ++ encode_word32 91 ++ fifteen ++ replicate 61 0)) ⇒ ran 1 768 ∷
    read_export_guids (whole (encode_packed 1 ++ encode_word32 33 ++ fifteen ++ 34 ∷ 1 ∷ 0 ∷ [])) ⇒ refusal-of 26 16 0 ∷ [])
    (allowing 20 0 0 0 0)
unfolding computing ascii opened
payload-at-depth-0 = refl

-- 26: at depth 16 or more an object is refused
pub depths-too-deep : Answered (
    load_object (whole (0 ∷ [])) false 15 ⇒ ran 0 8 ∷
    load_object (whole (0 ∷ [])) false 17 ⇒ refusal-of 26 16 0 ∷
    load_object (whole (0 ∷ [])) false 256 ⇒ refusal-of 26 16 0 ∷ [])
    opened
unfolding computing ascii opened
depths-too-deep = refl

-- ---- blocks, byte by byte

-- `head`: W, three zero words and a GUID count. `literal`: a GUID with a literal. `placed`: a GUID with a place among the literals
abbrev head : ℕ → ℕ → List ℕ
head w guids = encode_word32 w ++ replicate 12 0 ++ encode_word32 guids

abbrev literal : ℕ → String → List ℕ
literal guid path = encode_packed guid ++ 0 ∷ 1 ∷ encode_text (ascii path) ++ 0 ∷ []

abbrev placed : ℕ → ℕ → List ℕ
placed guid place = encode_packed guid ++ 0 ∷ 0 ∷ encode_packed place ++ 0 ∷ []

-- 30 gives the byte of the word that is set, and its value: the first word is at byte 4
pub first-word-set : Answered (
    read_checkpoint_tables (whole (encode_word32 16 ++ encode_word32 5)) ⇒ refusal-of 30 4 5 ∷ [])
    opened
unfolding computing ascii opened
first-word-set = refl

-- 30: the second word is at byte 8
pub second-word-set : Answered (
    read_checkpoint_tables (whole (encode_word32 16 ++ encode_word32 0 ++ encode_word32 256)) ⇒ refusal-of 30 8 256 ∷ [])
    opened
unfolding computing ascii opened
second-word-set = refl

-- 30: the third word is at byte 12
pub third-word-set : Answered (
    read_checkpoint_tables (whole (encode_word32 16 ++ replicate 8 0 ++ encode_word32 0xFFFFFFFF)) ⇒ refusal-of 30 12 0xFFFFFFFF ∷ [])
    opened
unfolding computing ascii opened
third-word-set = refl

-- 33 gives the entry, then the place
pub place-refused : Answered (
    read_checkpoint_tables (whole (head 0 2 ++ literal 2 "A" ++ placed 3 7)) ⇒ refusal-of 33 1 7 ∷ [])
    opened
unfolding computing ascii opened
place-refused = refl

-- 33: a place counts literals, not entries
pub place-among-literals : Answered (
    read_checkpoint_tables (whole (head 0 3 ++ literal 2 "A" ++ placed 3 0 ++ placed 4 1)) ⇒ refusal-of 33 2 1 ∷ [])
    opened
unfolding computing ascii opened
place-among-literals = refl

-- 33: a place counts literals, not GUID records: two literals of one GUID have two places
pub place-not-among-records : Answered (
    read_checkpoint_tables (whole (head 46 4 ++ literal 2 "A" ++ literal 2 "B" ++ placed 3 1 ++ placed 4 0 ++ encode_word32 0)) ⇒ block_counts (record { guids = 4; groups = 0; fields = 0; frame = 54; indexed = 2; literals = 2; resolved = 2 }) ∷
    guids (guid_path 0) ⇒ text (ascii "B") ∷
    guids (guid_path 1) ⇒ text (ascii "B") ∷
    guids (guid_path 2) ⇒ text (ascii "A") ∷ [])
    opened
unfolding computing ascii opened
place-not-among-records = refl

-- 33: a place counts this block's literals, neither paths set before nor literals of an earlier block
pub place-of-this-block : Answered (
    set_net_guid_path 2 (ascii "A") 0 ⇒ acted ∷
    read_checkpoint_tables (whole (head 0 1 ++ placed 3 0)) ⇒ refusal-of 33 0 0 ∷
    read_checkpoint_tables (whole (head 26 1 ++ literal 2 "A" ++ encode_word32 0)) ⇒ block_counts (record { guids = 1; groups = 0; fields = 0; frame = 34; indexed = 0; literals = 1; resolved = 0 }) ∷
    read_checkpoint_tables (whole (head 0 1 ++ placed 3 0)) ⇒ refusal-of 33 0 0 ∷ [])
    opened
unfolding computing ascii opened
place-of-this-block = refl

-- allowance 5 counts literals: an entry with a place takes nothing of it
pub places-are-no-literals : Answered (
    read_checkpoint_tables (whole (head 41 3 ++ literal 2 "A" ++ placed 3 0 ++ literal 4 "B" ++ encode_word32 0)) ⇒ block_counts (record { guids = 3; groups = 0; fields = 0; frame = 49; indexed = 1; literals = 2; resolved = 1 }) ∷ [])
    (allowing 9 9 9 900 2)
unfolding computing ascii opened
places-are-no-literals = refl

-- wire order: 14 of a literal's text comes before 42 (5), and 42 (5) before 42 (1)
pub literal-text-first : Answered (
    read_checkpoint_tables (whole (head 0 1 ++ 4 ∷ 0 ∷ 1 ∷ encode_word32 1 ++ 0xFF ∷ [])) ⇒ refusal-of 14 184 0 ∷
    read_checkpoint_tables (whole (head 0 1 ++ literal 2 "A")) ⇒ refusal-of 42 5 0 ∷ [])
    (allowing 0 9 9 900 0)
unfolding computing ascii opened
literal-text-first = refl

-- a slot byte is 0 for empty; a field follows any other
pub any-slot-byte : Answered (
    read_checkpoint_tables (whole (head 41 0 ++ encode_word32 1 ++ encode_text (ascii "/a") ++ encode_packed 1 ++ encode_packed 2 ++ 2 ∷ 0 ∷ encode_word32 7 ++ 1 ∷ 24 ∷ 255 ∷ 2 ∷ encode_word32 8 ++ 1 ∷ 26 ∷ [])) ⇒ block_counts (record { guids = 0; groups = 1; fields = 2; frame = 49; indexed = 0; literals = 0; resolved = 0 }) ∷
    groups (get_field 0 0) ⇒ found (some 7) ∷
    groups (get_field 0 1) ⇒ found (some 8) ∷ [])
    opened
unfolding computing ascii opened
any-slot-byte = refl

-- positions count from the window's first bit, and so does the end byte
pub end-within-the-window : Answered (
    read_checkpoint_tables (record { bytes = 0 ∷ head 16 0 ++ encode_word32 0; first = 8; count = 192 }) ⇒ block_counts (record { guids = 0; groups = 0; fields = 0; frame = 24; indexed = 0; literals = 0; resolved = 0 }) ∷ [])
    opened
unfolding computing ascii opened
end-within-the-window = refl

-- ---- writing

-- the writer uses the fewest bytes: three for a GUID of 21 bits, four for one of 28
pub fewest-bytes : (write 99 (after (set_net_guid_path 0x1FFFFF [] 0 ⇒ acted ∷ [])) ≡ written 34)
    × (write 99 (after (set_net_guid_path 0x1FFFFF [] 0 ⇒ acted ∷ set_net_guid_path 0xFFFFFFF [] 0 ⇒ acted ∷ [])) ≡ written 45)
unfolding computing ascii opened
fewest-bytes = (refl, refl)

abbrev clashing : List (Call × Answer)
clashing =
    add_export_group (ascii "/a.b") 5 0 ⇒ at_place 0 ∷
    add_export_group (ascii "Default__/x/y") 6 0 ⇒ at_place 1 ∷
    add_export_group (ascii "Default__/x/_Core/y") 5 0 ⇒ at_place 0 ∷ []

-- 44: all three keys of an earlier group count; here the core alias of a path that also has a default alias
pub third-key-clashes : Answered clashing opened × (write 99 (after clashing) ≡ not_written 44 1 0)
unfolding computing ascii opened
third-key-clashes = (refl, refl)
