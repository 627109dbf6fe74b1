-- Contracts of the functions that append and move texts.
use Rattle.std.specs.Prelude.{◌≡◌, ℕ, ◌+◌, ◌-◌, ◌*◌, ◌^◌, ◌<◌, ◌≤◌, ◌≢◌, List, length}
use Rattle.vrf_bitio.specs.Pasted.{pasted}
use Rattle.vrf_words.specs.Words.{part, word}
use Rattle.vrf_words.specs.Inner.Words.{set_word, Apart}
use Rattle.vrf_table.specs.declared.TextSpan.{TextSpan}
use Rattle.vrf_store.specs.UpTo.{sum_below}
use Rattle.vrf_store.specs.Store.{Header, Store, allowances_of, header_of, store_of}
use Rattle.vrf_store.specs.Inner.Stepped.{held, Stepped, KeysKept}

-- ---- a store with other texts

-- the header with a new number of bytes used and a new half
abbrev pub with_text_use : Header → ℕ → ℕ → Header
with_text_use h used half = record { allowed = h.allowed; guids = h.guids; groups = h.groups; fields = h.fields; held = h.held; used = used; half = half }

-- the store with the rows g, r, f and the texts x, of which `used` bytes are used
abbrev pub with_moved_texts : Store → ℕ → ℕ → List ℕ → List ℕ → List ℕ → List ℕ → Store
with_moved_texts s used half g r f x = record {
  header = with_text_use s.header used half;
  guid_rows = g;
  guid_heads = s.guid_heads;
  group_rows = r;
  group_heads = s.group_heads;
  path_links = s.path_links;
  path_heads = s.path_heads;
  leaf_links = s.leaf_links;
  leaf_heads = s.leaf_heads;
  field_rows = f;
  field_heads = s.field_heads;
  literals = s.literals;
  texts = x;
}

-- the store with the text t written after the bytes used
abbrev pub with_text : Store → List ℕ → Store
with_text s t = with_moved_texts s (s.header.used + length t) s.header.half s.guid_rows s.group_rows s.field_rows (pasted s.texts s.header.used t)

-- t is after the bytes used, and only these change
pub record Appended (m t m' : List ℕ) (span : TextSpan) : Type 0 where
  pub stepped : Stepped m m' (held m)
  pub place : span.at ≡ (header_of m).used
  pub long : span.len ≡ length t
  pub used : (header_of m').used ≡ span.at + span.len
  pub store : store_of m' ≡ with_text (store_of m) t
  pub text : part (store_of m').texts span.at span.len ≡ t

-- ---- rows of six words, from word i of a memory on

-- where the text of row e is, counted from the first byte of the texts, and its length
abbrev pub text_at : List ℕ → ℕ → ℕ → ℕ
text_at m i e = word m (i + 6 * e + 3)

abbrev pub text_len : List ℕ → ℕ → ℕ → ℕ
text_len m i e = word m (i + 6 * e + 4)

-- the total length of the texts of n rows
abbrev pub lens : List ℕ → ℕ → ℕ → ℕ
lens m i n = sum_below (text_len m i) n

-- n rows of m with texts from byte `from` on, and n rows of m' with texts from byte `to` on, inside the first `used` bytes. They are equal,
-- except for the places of the texts
pub record SameTexts (i n : ℕ) (m : List ℕ) (from : ℕ) (m' : List ℕ) (to used : ℕ) : Type 0 where
  pub others : (e j : ℕ) → e < n → j < 6 → j ≢ 3 → word m' (i + 6 * e + j) ≡ word m (i + 6 * e + j)
  pub texts : (e : ℕ) → e < n → part m' (to + text_at m' i e) (text_len m i e) ≡ part m (from + text_at m i e) (text_len m i e)
  pub within : (e : ℕ) → e < n → text_at m' i e + text_len m i e ≤ used

-- ---- moving one text

-- what moving a text requires: the text of the row at word `row` is inside the memory, and the new place does not overlap it
pub record TextMovable (m : List ℕ) (row from to used : ℕ) : Type 0 where
  pub row_fits : 4 * row + 24 ≤ length m
  pub before : 4 * row + 24 ≤ to
  pub text : from + word m (row + 3) + word m (row + 4) ≤ length m
  pub space : to + used + word m (row + 4) ≤ length m
  pub apart : Apart (from + word m (row + 3)) (word m (row + 4)) (to + used) (word m (row + 4))
  pub small : used + word m (row + 4) < 2 ^ 32

-- the memory after the text is moved and the row points to its new place
unfoldable pub move_text : List ℕ → ℕ → ℕ → ℕ → ℕ → List ℕ
move_text m row from to used = set_word (pasted m (to + used) (part m (from + word m (row + 3)) (word m (row + 4)))) (row + 3) used

-- ---- moving the texts of n rows

-- what moving n texts requires: the rows are before both halves of `size` bytes, each text is inside the old half, and all fit into the new
-- half after the bytes used
pub record Movable (m : List ℕ) (i n from to used size : ℕ) : Type 0 where
  pub rows_from : 4 * i + 24 * n ≤ from
  pub rows_to : 4 * i + 24 * n ≤ to
  pub old : from + size ≤ length m
  pub new : to + size ≤ length m
  pub halves : Apart from size to size
  pub within : (e : ℕ) → e < n → text_at m i e + text_len m i e ≤ size
  pub fits : used + lens m i n ≤ size
  pub small : size < 2 ^ 32

-- the rows have the same texts in the new half, of which `end` bytes are then used, and nothing else changes
pub record TextsMoved (m m' : List ℕ) (i n from to used end : ℕ) : Type 0 where
  pub sum : end ≡ used + lens m i n
  pub same_texts : SameTexts i n m from m' to end
  pub kept : (a k : ℕ) → Apart a k (4 * i) (24 * n) → Apart a k (to + used) (lens m i n) → part m' a k ≡ part m a k
  pub long : length m' ≡ length m

-- ---- the whole memory

pub record Compacted (m m' : List ℕ) : Type 0 where
  pub stepped : Stepped m m' (held m)
  pub header : header_of m' ≡ with_text_use (header_of m) (header_of m).held (1 - (header_of m).half)
  pub keys : KeysKept m m'

-- the book is unchanged, and so is the header except for the half in use and its bytes used; n more bytes fit
pub record SpaceMade (m m' : List ℕ) (n : ℕ) : Type 0 where
  pub stepped : Stepped m m' (held m)
  pub header : header_of m' ≡ with_text_use (header_of m) (header_of m').used (header_of m').half
  pub space : (header_of m').used + n ≤ (allowances_of m').text
  pub keys : KeysKept m m'
