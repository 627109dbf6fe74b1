-- The check in the steps of the code: first the sum of the lengths, which limits the work that follows, then the texts of all tables, then
-- their rows, then the keys and leaves of the groups, whose walks read the text of any group.
use Rattle.std.specs.Prelude.{Bool, ◌&&◌, List, ℕ, ◌+◌, ◌*◌, ◌/◌, ◌%◌, ◌<◌, ◌≤◌, eqb, ltb, leb}
use Rattle.vrf_path.specs.Leaf.{leaf}
use Rattle.vrf_table.specs.Table.{key, len, info, text}
use Rattle.vrf_table.specs.TextIndex.{key_numbered, find_path, claim_of}
use Rattle.vrf_table.specs.declared.KeyIndex.{KeyIndex}
use Rattle.vrf_table.specs.declared.GroupRows.{GroupRows}
use Rattle.vrf_table.specs.declared.PathIndex.{PathIndex}
use Rattle.vrf_table.specs.declared.LeafIndex.{LeafIndex}
use Rattle.vrf_store.specs.UpTo.{all_below}
use Rattle.vrf_store.specs.Layout
use Rattle.vrf_store.specs.Store.{Store, header_of, store_of}
use Rattle.vrf_store.specs.Check.{text_ok, found_ok, is32, reach_ok, settled_ok, text_sum}
use Rattle.vrf_store.specs.Inner.Valid.{Shaped, ValidHeader}
use Rattle.vrf_store.specs.Inner.WellFormed.{Enough}

-- ---- the steps, on lists

-- row e of the GUID records or of the groups, without its text; `most` is the highest number that it can have
unfoldable pub row_ok : (r heads : List ℕ) → (b n most e : ℕ) → Bool
row_ok r heads b n most e = is32 (key r e) && (leb (info r e) most && found_ok r heads b n e)

-- k is the key of a slot of one of n groups, where g is the memory of their rows
unfoldable pub slot_in : List ℕ → ℕ → ℕ → Bool
slot_in g n k = ltb (k / 65536) n && ltb (k % 65536) (info g (k / 65536))

unfoldable pub field_row_ok : List ℕ → ℕ → (r heads : List ℕ) → (b n e : ℕ) → Bool
field_row_ok g groups r heads b n e = slot_in g groups (key r e) && (is32 (info r e) && found_ok r heads b n e)

-- key j of group g finds its entry or a later one
unfoldable pub key_reach : (r x links heads : List ℕ) → (b n g j : ℕ) → Bool
key_reach r x links heads b n g j = reach_ok (find_path r x links heads b n) (3 * g + j) (key_numbered (text r x g) j)

unfoldable pub keys_reach : (r x links heads : List ℕ) → (b n g : ℕ) → Bool
keys_reach r x links heads b n g = key_reach r x links heads b n g 0 && (key_reach r x links heads b n g 1 && key_reach r x links heads b n g 2)

unfoldable pub leaf_settled : (r x links heads : List ℕ) → (b n g : ℕ) → Bool
leaf_settled r x links heads b n g = settled_ok (claim_of r x links heads b n) g (leaf (text r x g))

-- group g is found by its keys and by its leaf
unfoldable pub path_ok : (r x links heads : List ℕ) → ℕ → (leaf_links leaf_heads : List ℕ) → (leafB n g : ℕ) → Bool
path_ok r x links heads b leaf_links leaf_heads leafB n g = keys_reach r x links heads b n g && leaf_settled r x leaf_links leaf_heads leafB n g

-- ---- the steps, on the indexes of the code

abbrev pub finds_row : KeyIndex → ℕ → Bool
finds_row t e = found_ok t.rows.now t.heads.now t.buckets t.count e

abbrev pub row_passes : KeyIndex → (most e : ℕ) → Bool
row_passes t most e = row_ok t.rows.now t.heads.now t.buckets t.count most e

-- without the test that the number has 32 bits, since a word has
abbrev pub field_passes : (groups fields : KeyIndex) → ℕ → Bool
field_passes g t e = slot_in g.rows.now g.count (key t.rows.now e) && finds_row t e

abbrev pub keys_pass : PathIndex → ℕ → Bool
keys_pass t g = keys_reach t.groups.rows.now t.groups.texts.now t.links.now t.heads.now t.buckets t.groups.count g

abbrev pub leaf_passes : LeafIndex → ℕ → Bool
leaf_passes t g = leaf_settled t.chains.groups.rows.now t.chains.groups.texts.now t.chains.links.now t.heads.now t.buckets t.chains.groups.count g

-- ---- the steps, on a store

unfoldable pub sum_ok : Store → Bool
sum_ok s = eqb (text_sum s) s.header.held

-- the texts of n rows
abbrev pub texts_in : Store → List ℕ → ℕ → Bool
texts_in s r n = all_below (text_ok s.header.used s.texts r) n

unfoldable pub texts_ok : Store → Bool
texts_ok s = texts_in s s.guid_rows s.header.guids && (texts_in s s.group_rows s.header.groups && texts_in s s.field_rows s.header.fields)

unfoldable pub guids_ok : Store → Bool
guids_ok s = all_below (row_ok s.guid_rows s.guid_heads (Layout.guid_buckets s.header.allowed) s.header.guids 4294967295) s.header.guids

unfoldable pub groups_ok : Store → Bool
groups_ok s = all_below (row_ok s.group_rows s.group_heads (Layout.group_buckets s.header.allowed) s.header.groups 65536) s.header.groups

unfoldable pub fields_ok : Store → Bool
fields_ok s = all_below (field_row_ok s.group_rows s.header.groups s.field_rows s.field_heads (Layout.field_buckets s.header.allowed) s.header.fields) s.header.fields

unfoldable pub rows_ok : Store → Bool
rows_ok s = guids_ok s && (groups_ok s && fields_ok s)

unfoldable pub paths_ok : Store → Bool
paths_ok s = all_below (path_ok s.group_rows s.texts s.path_links s.path_heads (Layout.path_buckets s.header.allowed) s.leaf_links s.leaf_heads (Layout.leaf_buckets s.header.allowed) s.header.groups) s.header.groups

-- ---- what the steps require of groups and of memory

-- the texts have at most 4096 bytes
abbrev pub ShortTexts : GroupRows → Type 0
ShortTexts t = (e : ℕ) → e < t.count → len t.rows.now e ≤ 4096

-- the allowances and the header are in bounds
pub record InBounds (m : List ℕ) : Type 0 where
  pub enough : Enough m
  pub shaped : Shaped (store_of m)
  pub header : ValidHeader (header_of m)
