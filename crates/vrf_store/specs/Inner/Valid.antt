-- What the check accepts, as facts about a store. The contracts of all functions on books require these facts.
use Rattle.std.specs.Prelude.{◌≡◌, ℕ, ◌+◌, ◌*◌, ◌/◌, ◌%◌, ◌<◌, ◌≤◌, List, length}
use Rattle.vrf_text.specs.Text.{IsText}
use Rattle.vrf_words.specs.Words.{word}
use Rattle.vrf_model.specs.Lawful.{Is32, Allowed}
use Rattle.vrf_table.specs.Table.{key, link, at, len, info, text, key_hit, key_start}
use Rattle.vrf_table.specs.TextIndex.{text_start, path_hit, leaf_hit, leaf_start}
use Rattle.vrf_table.specs.Inner.Index.{FindsLast, FindsClaim}
use Rattle.vrf_store.specs.Layout
use Rattle.vrf_store.specs.Store.{Header, Store}
use Rattle.vrf_store.specs.Check.{text_sum}

-- each part has the length that the allowances give it
pub record Shaped (s : Store) : Type 0 where
  pub guid_rows : length s.guid_rows ≡ 24 * s.header.allowed.guids
  pub guid_heads : length s.guid_heads ≡ 4 * Layout.guid_buckets s.header.allowed
  pub group_rows : length s.group_rows ≡ 24 * s.header.allowed.groups
  pub group_heads : length s.group_heads ≡ 4 * Layout.group_buckets s.header.allowed
  pub path_links : length s.path_links ≡ 12 * s.header.allowed.groups
  pub path_heads : length s.path_heads ≡ 4 * Layout.path_buckets s.header.allowed
  pub leaf_links : length s.leaf_links ≡ 4 * s.header.allowed.groups
  pub leaf_heads : length s.leaf_heads ≡ 4 * Layout.leaf_buckets s.header.allowed
  pub field_rows : length s.field_rows ≡ 24 * s.header.allowed.fields
  pub field_heads : length s.field_heads ≡ 4 * Layout.field_buckets s.header.allowed
  pub texts : length s.texts ≡ s.header.allowed.text

pub record ValidHeader (h : Header) : Type 0 where
  pub tops : Allowed h.allowed
  pub guids : h.guids ≤ h.allowed.guids
  pub groups : h.groups ≤ h.allowed.groups
  pub fields : h.fields ≤ h.allowed.fields
  pub held : h.held ≤ h.allowed.text
  pub used : h.used ≤ h.allowed.text
  pub half : h.half ≤ 1

-- the text of row e is inside the bytes used, and is UTF-8 of at most 4096 bytes
pub record ValidText (used : ℕ) (x r : List ℕ) (e : ℕ) : Type 0 where
  pub within : at r e + len r e ≤ used
  pub is_text : IsText (text r x e)

-- a table of n rows: each text is good, no two keys are equal, and each key finds its row
pub record ValidTable (used : ℕ) (x r heads : List ℕ) (b n : ℕ) : Type 0 where
  pub texts : (e : ℕ) → e < n → ValidText used x r e
  pub distinct : (i j : ℕ) → i < n → j < n → key r i ≡ key r j → i ≡ j
  pub latest : FindsLast (key_hit r) (link r) (key_start heads b) n

-- k is the key of a slot that a group has
pub record ValidSlotKey (s : Store) (k : ℕ) : Type 0 where
  pub place : k / 65536 < s.header.groups
  pub slot : k % 65536 < info s.group_rows (k / 65536)

pub record Valid (s : Store) : Type 0 where
  pub shaped : Shaped s
  pub header : ValidHeader s.header
  pub guid_table : ValidTable s.header.used s.texts s.guid_rows s.guid_heads (Layout.guid_buckets s.header.allowed) s.header.guids
  pub guids : (e : ℕ) → e < s.header.guids → Is32 (key s.guid_rows e) × Is32 (info s.guid_rows e)
  pub group_table : ValidTable s.header.used s.texts s.group_rows s.group_heads (Layout.group_buckets s.header.allowed) s.header.groups
  pub groups : (e : ℕ) → e < s.header.groups → Is32 (key s.group_rows e) × (info s.group_rows e ≤ 65536)
  pub paths : FindsLast (path_hit s.group_rows s.texts) (word s.path_links) (text_start s.path_heads (Layout.path_buckets s.header.allowed)) (3 * s.header.groups)
  pub leaves : FindsClaim (leaf_hit s.group_rows s.texts) (word s.leaf_links) (leaf_start s.leaf_heads (Layout.leaf_buckets s.header.allowed)) s.header.groups
  pub field_table : ValidTable s.header.used s.texts s.field_rows s.field_heads (Layout.field_buckets s.header.allowed) s.header.fields
  pub fields : (e : ℕ) → e < s.header.fields → ValidSlotKey s (key s.field_rows e) × Is32 (info s.field_rows e)
  pub total : text_sum s ≡ s.header.held
