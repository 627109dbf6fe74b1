-- Contracts of the functions that write one part of a memory: which store the memory then holds.
use Rattle.std.specs.Prelude.{◌≡◌, ℕ, suc, ◌+◌, ◌*◌, ◌≤◌, List, ◌++◌, length}
use Rattle.vrf_text.specs.Text.{IsText}
use Rattle.vrf_words.specs.Words.{part}
use Rattle.vrf_words.specs.Inner.Words.{set_word}
use Rattle.vrf_table.specs.Table.{at, len, info, key_bucket, key_start}
use Rattle.vrf_table.specs.Inner.Table.{set_key, set_text}
use Rattle.vrf_store.specs.Store.{Store, allowances_of, counters_of, store_of}

-- ---- a store with some of its parts replaced

abbrev pub with_group_table : Store → List ℕ → List ℕ → Store
with_group_table s r heads = record { header = s.header; guid_rows = s.guid_rows; guid_heads = s.guid_heads; group_rows = r; group_heads = heads; path_links = s.path_links; path_heads = s.path_heads; leaf_links = s.leaf_links; leaf_heads = s.leaf_heads; field_rows = s.field_rows; field_heads = s.field_heads; literals = s.literals; texts = s.texts }

abbrev pub with_path_index : Store → List ℕ → List ℕ → Store
with_path_index s r heads = record { header = s.header; guid_rows = s.guid_rows; guid_heads = s.guid_heads; group_rows = s.group_rows; group_heads = s.group_heads; path_links = r; path_heads = heads; leaf_links = s.leaf_links; leaf_heads = s.leaf_heads; field_rows = s.field_rows; field_heads = s.field_heads; literals = s.literals; texts = s.texts }

abbrev pub with_leaf_index : Store → List ℕ → List ℕ → Store
with_leaf_index s r heads = record { header = s.header; guid_rows = s.guid_rows; guid_heads = s.guid_heads; group_rows = s.group_rows; group_heads = s.group_heads; path_links = s.path_links; path_heads = s.path_heads; leaf_links = r; leaf_heads = heads; field_rows = s.field_rows; field_heads = s.field_heads; literals = s.literals; texts = s.texts }

-- ---- writes in sequence

-- m' is m after writes, and holds the store s
pub record WrittenStore (m m' : List ℕ) (s : Store) : Type 0 where
  pub store : store_of m' ≡ s
  pub allowed : allowances_of m' ≡ allowances_of m
  pub counters : counters_of m' ≡ counters_of m
  pub long : length m' ≡ length m

-- ---- adding a row

-- the rows with a new row n: its key, the link to the newest row of its bucket, its text and its number
unfoldable pub push_row : List ℕ → ℕ → ℕ → ℕ → ℕ → ℕ → ℕ → List ℕ
push_row r n k p a l i = set_key (set_text r n a l i) n k p

-- l bytes at place a are inside the bytes used of x, and are UTF-8 of at most 4096 bytes
pub record TextPlaced (used : ℕ) (x : List ℕ) (a l : ℕ) : Type 0 where
  pub within : a + l ≤ used
  pub is_text : IsText (part x a l)

-- the memory of a table with one more row, where n rows of cap are filled and there are b heads
unfoldable pub pushed : List ℕ → (cap b n k at len info : ℕ) → List ℕ
pushed t cap b n k at len info =
    push_row (part t 0 (24 * cap)) n k (key_start (part t (24 * cap) (4 * b)) b k) at len info
    ++ set_word (part t (24 * cap) (4 * b)) (key_bucket b k) (suc n)
