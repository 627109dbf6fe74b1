-- What a lent memory holds (docs/LAYOUT.md): the numbers of its header, the bytes of each table, of each index and of the texts, and the
-- book
-- (document 01, The book) that these represent.
use Rattle.std.specs.Prelude.{ℕ, ◌+◌, ◌*◌, ◌^◌, cond, List, ◌==◌}
use Rattle.std.proofs.Math.Option.{Option, none, some}
use Rattle.vrf_words.specs.Words.{word, part}
use Rattle.vrf_model.specs.Book.{Guid, Slot, empty, filled, Group, Allowances, Content, Counters, Book}
use Rattle.vrf_model.specs.Setting.{new_guid}
use Rattle.vrf_table.specs.Chain.{last_below}
use Rattle.vrf_table.specs.Table.{key, info, text, key_hit}
use Rattle.vrf_store.specs.UpTo.{up_to}
use Rattle.vrf_store.specs.Layout

-- ---- the header

abbrev pub allowances_of : List ℕ → Allowances
allowances_of m = record { guids = word m 0; groups = word m 1; fields = word m 2; text = word m 3; literals = word m 4 }

-- the 64-bit number in the words i and i + 1
unfoldable pub long : List ℕ → ℕ → ℕ
long m i = word m i + 2 ^ 32 * word m (i + 1)

unfoldable pub counters_of : List ℕ → Counters
counters_of m = record { schema = long m 11; guid = long m 13; dropped = long m 15; replaced = long m 17; renamed = long m 19 }

-- counts and totals: the numbers of GUID records, groups and fields held; the bytes of all texts held; the bytes used in the half of the
-- texts that is in use, and which half that is
pub record Header : Type 0 where
  pub allowed : Allowances
  pub guids : ℕ
  pub groups : ℕ
  pub fields : ℕ
  pub held : ℕ
  pub used : ℕ
  pub half : ℕ

abbrev pub header_of : List ℕ → Header
header_of m = record { allowed = allowances_of m; guids = word m 5; groups = word m 6; fields = word m 7; held = word m 8; used = word m 9; half = word m 10 }

-- ---- the parts after the header

-- the first byte of a half of the texts
unfoldable pub half_at : Allowances → ℕ → ℕ
half_at a half = cond (half == 0) (Layout.texts_at a) (Layout.texts_at a + a.text)

pub record Store : Type 0 where
  pub header : Header
  pub guid_rows : List ℕ
  pub guid_heads : List ℕ
  pub group_rows : List ℕ
  pub group_heads : List ℕ
  pub path_links : List ℕ
  pub path_heads : List ℕ
  pub leaf_links : List ℕ
  pub leaf_heads : List ℕ
  pub field_rows : List ℕ
  pub field_heads : List ℕ
  -- where the literals of a block are while the block is read; not part of the book
  pub literals : List ℕ
  pub texts : List ℕ

-- the n words from word i on
unfoldable pub words : List ℕ → ℕ → ℕ → List ℕ
words m i n = part m (4 * i) (4 * n)

abbrev pub store_by : Header → List ℕ → Store
store_by h m = record {
  header = h;
  guid_rows = words m (Layout.guid_rows_at h.allowed) (6 * h.allowed.guids);
  guid_heads = words m (Layout.guid_heads_at h.allowed) (Layout.guid_buckets h.allowed);
  group_rows = words m (Layout.group_rows_at h.allowed) (6 * h.allowed.groups);
  group_heads = words m (Layout.group_heads_at h.allowed) (Layout.group_buckets h.allowed);
  path_links = words m (Layout.path_links_at h.allowed) (3 * h.allowed.groups);
  path_heads = words m (Layout.path_heads_at h.allowed) (Layout.path_buckets h.allowed);
  leaf_links = words m (Layout.leaf_links_at h.allowed) h.allowed.groups;
  leaf_heads = words m (Layout.leaf_heads_at h.allowed) (Layout.leaf_buckets h.allowed);
  field_rows = words m (Layout.field_rows_at h.allowed) (6 * h.allowed.fields);
  field_heads = words m (Layout.field_heads_at h.allowed) (Layout.field_buckets h.allowed);
  literals = words m (Layout.literals_at h.allowed) h.allowed.literals;
  texts = part m (half_at h.allowed h.half) h.allowed.text;
}

abbrev pub store_of : List ℕ → Store
store_of m = store_by (header_of m) m

-- ---- the book that a store holds

unfoldable pub guid_at : Store → ℕ → Guid
guid_at s e = new_guid (key s.guid_rows e) (text s.guid_rows s.texts e) (info s.guid_rows e)

unfoldable pub field_at : Store → ℕ → Slot
field_at s e = filled (info s.field_rows e) (text s.field_rows s.texts e)

unfoldable pub or_empty : (ℕ → Slot) → Option ℕ → Slot
or_empty f none = empty
or_empty f (some e) = f e

-- the key of the field in a slot of a group
unfoldable pub slot_key : ℕ → ℕ → ℕ
slot_key place slot = 65536 * place + slot

-- a slot as the first n fields fill it
unfoldable pub slot_by : Store → ℕ → ℕ → ℕ → Slot
slot_by s n place slot = or_empty (field_at s) (last_below (key_hit s.field_rows (slot_key place slot)) n)

unfoldable pub group_by : Store → ℕ → ℕ → Group
group_by s n g = record { path = text s.group_rows s.texts g; index = key s.group_rows g; slots = up_to (slot_by s n g) (info s.group_rows g) }

unfoldable pub content_of : Store → Content
content_of s = record { allowed = s.header.allowed; guids = up_to (guid_at s) s.header.guids; groups = up_to (group_by s s.header.fields) s.header.groups }

unfoldable pub book_of : List ℕ → Book
book_of m = record { content = content_of (store_of m); counters = counters_of m }
