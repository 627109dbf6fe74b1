-- Contracts of the functions that index, add, grow, merge and replace groups.
use Rattle.std.specs.Prelude.{◌≡◌, ℕ, ◌+◌, ◌-◌, ◌*◌, ◌/◌, ◌%◌, ◌<◌, ◌≤◌, List, length}
use Rattle.std.proofs.Math.Option.{Option, none, some}
use Rattle.vrf_path.specs.Leaf.{leaf}
use Rattle.vrf_words.specs.Words.{word, part}
use Rattle.vrf_words.specs.Inner.Words.{set_word}
use Rattle.vrf_model.specs.Book.{empty, Group, Content}
use Rattle.vrf_model.specs.Lookup.{Claim, absent, ambiguous, claimed, index_place, slot_at}
use Rattle.vrf_model.specs.Setting.{grown}
use Rattle.vrf_model.specs.Lawful.{Is32}
use Rattle.vrf_table.specs.Table.{text, key, link, at, len, info, key_hit, key_bucket, key_start}
use Rattle.vrf_table.specs.TextIndex.{text_bucket, text_start, key_numbered, path_hit, leaf_hit, leaf_start, claim_of}
use Rattle.vrf_table.specs.Inner.Index.{FindsLast, FindsClaim}
use Rattle.vrf_table.specs.Inner.TextIndex.{leaf_bucket}
use Rattle.vrf_table.specs.Inner.Answers.{entry}
use Rattle.vrf_store.specs.UpTo.{up_to}
use Rattle.vrf_store.specs.Layout
use Rattle.vrf_store.specs.Store.{Store, allowances_of, counters_of, store_of, header_of, slot_by}
use Rattle.vrf_store.specs.Check.{text_sum}
use Rattle.vrf_store.specs.Inner.Valid.{Shaped, ValidHeader, ValidText, ValidTable, ValidSlotKey}
use Rattle.vrf_store.specs.Inner.WellFormed.{Enough, WellFormed}
use Rattle.vrf_store.specs.Inner.Memory.{with_group_table, with_path_index, with_leaf_index, push_row, TextPlaced}
use Rattle.vrf_store.specs.Inner.Stepped.{held}
use Rattle.vrf_store.specs.declared.groups.Buckets.{Buckets}

-- the bucket of a text, if there is a text
unfoldable pub bucket_of : (List ℕ → ℕ) → Option (List ℕ) → Option ℕ
bucket_of β none = none
bucket_of β (some t) = some (β t)

-- the bucket that a text joins. It joins none if its claim is ambiguous already, so a chain holds each text at most twice
unfoldable pub unless_shared : Claim → ℕ → Option ℕ
unless_shared absent h = some h
unless_shared ambiguous h = none
unless_shared (claimed e) h = some h

unfoldable pub joined_by : (List ℕ → Claim) → (List ℕ → ℕ) → Option (List ℕ) → Option ℕ
joined_by claim β none = none
joined_by claim β (some t) = unless_shared (claim t) (β t)

-- the links and the heads after an entry is put at the front of the chain of its bucket, if it has one. Word i is its link, and p is the
-- pointer to it
unfoldable pub linked : List ℕ → List ℕ → ℕ → Option ℕ → List ℕ
linked links heads i none = links
linked links heads i (some h) = set_word links i (word heads h)

unfoldable pub headed : List ℕ → ℕ → Option ℕ → List ℕ
headed heads p none = heads
headed heads p (some h) = set_word heads h p

-- the bucket, if there is one, is below b
abbrev pub BucketBelow : ℕ → Option ℕ → Type 0
BucketBelow b none = Unit {0}
BucketBelow b (some h) = h < b

-- ---- a valid store in two parts: the indexes of the groups, and the rest

-- the three indexes are correct for the first n groups
pub record Indexed (s : Store) (n : ℕ) : Type 0 where
  pub keys : FindsLast (key_hit s.group_rows) (link s.group_rows) (key_start s.group_heads (Layout.group_buckets s.header.allowed)) n
  pub paths : FindsLast (path_hit s.group_rows s.texts) (word s.path_links) (text_start s.path_heads (Layout.path_buckets s.header.allowed)) (3 * n)
  pub leaves : FindsClaim (leaf_hit s.group_rows s.texts) (word s.leaf_links) (leaf_start s.leaf_heads (Layout.leaf_buckets s.header.allowed)) n

-- everything is valid except the three indexes, which can hold anything
pub record Unindexed (s : Store) : Type 0 where
  pub shaped : Shaped s
  pub header : ValidHeader s.header
  pub guid_table : ValidTable s.header.used s.texts s.guid_rows s.guid_heads (Layout.guid_buckets s.header.allowed) s.header.guids
  pub guids : (e : ℕ) → e < s.header.guids → Is32 (key s.guid_rows e) × Is32 (info s.guid_rows e)
  pub texts : (e : ℕ) → e < s.header.groups → ValidText s.header.used s.texts s.group_rows e
  pub distinct : (i j : ℕ) → i < s.header.groups → j < s.header.groups → key s.group_rows i ≡ key s.group_rows j → i ≡ j
  pub groups : (e : ℕ) → e < s.header.groups → Is32 (key s.group_rows e) × (info s.group_rows e ≤ 65536)
  pub field_table : ValidTable s.header.used s.texts s.field_rows s.field_heads (Layout.field_buckets s.header.allowed) s.header.fields
  pub fields : (e : ℕ) → e < s.header.fields → ValidSlotKey s (key s.field_rows e) × Is32 (info s.field_rows e)
  pub total : text_sum s ≡ s.header.held

-- ---- adding a group to the indexes

-- an entry is put at the front of the chain of its bucket, if it has one: in the index by path-name index, by path key and by leaf
unfoldable pub push_key : Store → ℕ → Option ℕ → Store
push_key s e o = with_group_table s (linked s.group_rows s.group_heads (6 * e + 2) o) (headed s.group_heads (e + 1) o)

unfoldable pub push_path : Store → ℕ → Option ℕ → Store
push_path s e o = with_path_index s (linked s.path_links s.path_heads e o) (headed s.path_heads (e + 1) o)

unfoldable pub push_leaf : Store → ℕ → Option ℕ → Store
push_leaf s e o = with_leaf_index s (linked s.leaf_links s.leaf_heads e o) (headed s.leaf_heads (e + 1) o)

-- the buckets of group g: for its index, for key j of its path, and for its leaf
abbrev pub key_of : Store → ℕ → Option ℕ
key_of s g = some (key_bucket (Layout.group_buckets s.header.allowed) (key s.group_rows g))

abbrev pub path_of : Store → ℕ → ℕ → Option ℕ
path_of s g j = bucket_of (text_bucket (Layout.path_buckets s.header.allowed)) (key_numbered (text s.group_rows s.texts g) j)

abbrev pub leaf_of : Store → ℕ → Option ℕ
leaf_of s g = joined_by (claim_of s.group_rows s.texts s.leaf_links s.leaf_heads (Layout.leaf_buckets s.header.allowed) g) (leaf_bucket (Layout.leaf_buckets s.header.allowed)) (leaf (text s.group_rows s.texts g))

-- ---- changing only links and heads

-- the same rows, except for their links
pub record SameRows (r r' : List ℕ) : Type 0 where
  pub keys : (e : ℕ) → key r' e ≡ key r e
  pub ats : (e : ℕ) → at r' e ≡ at r e
  pub lens : (e : ℕ) → len r' e ≡ len r e
  pub infos : (e : ℕ) → info r' e ≡ info r e
  pub long : length r' ≡ length r

abbrev pub with_links : Store → (r h pl ph ll lh : List ℕ) → Store
with_links s r h pl ph ll lh = record { header = s.header; guid_rows = s.guid_rows; guid_heads = s.guid_heads; group_rows = r; group_heads = h; path_links = pl; path_heads = ph; leaf_links = ll; leaf_heads = lh; field_rows = s.field_rows; field_heads = s.field_heads; literals = s.literals; texts = s.texts }

pub record Relinked (s s' : Store) : Type 0 where
  pub rest : s' ≡ with_links s s'.group_rows s'.group_heads s'.path_links s'.path_heads s'.leaf_links s'.leaf_heads
  pub rows : SameRows s.group_rows s'.group_rows
  pub group_heads : length s'.group_heads ≡ length s.group_heads
  pub path_links : length s'.path_links ≡ length s.path_links
  pub path_heads : length s'.path_heads ≡ length s.path_heads
  pub leaf_links : length s'.leaf_links ≡ length s.leaf_links
  pub leaf_heads : length s'.leaf_heads ≡ length s.leaf_heads

-- what adding group g to the indexes requires: there is such a row, and the texts of the groups up to g are inside the half
pub record Indexable (m : List ℕ) (g : ℕ) : Type 0 where
  pub enough : Enough m
  pub few : (allowances_of m).groups ≤ 100000
  pub low : g < (allowances_of m).groups
  pub within : (e : ℕ) → e ≤ g → at (store_of m).group_rows e + len (store_of m).group_rows e ≤ (allowances_of m).text
  pub short : (e : ℕ) → e ≤ g → len (store_of m).group_rows e ≤ 4096

-- what putting entry e into an index requires: the index has n entries for each group, and b buckets
pub record Pushable (m : List ℕ) (n b e : ℕ) (o : Option ℕ) : Type 0 where
  pub enough : Enough m
  pub few : (allowances_of m).groups ≤ 100000
  pub low : e < n * (allowances_of m).groups
  pub below : BucketBelow b o

-- only links and heads change; if the first n groups were indexed before, the first n' are indexed now
pub record MoreIndexed (m m' : List ℕ) (n n' : ℕ) : Type 0 where
  pub relinked : Relinked (store_of m) (store_of m')
  pub indexed : Indexed (store_of m) n → Indexed (store_of m') n'
  pub counters : counters_of m' ≡ counters_of m
  pub long : length m' ≡ length m

-- r holds the buckets of group g
pub record BucketsOf (s : Store) (g : ℕ) (r : Buckets) : Type 0 where
  pub key : entry r.key ≡ key_of s g
  pub own : entry r.own ≡ path_of s g 0
  pub default : entry r.default ≡ path_of s g 1
  pub core : entry r.core ≡ path_of s g 2
  pub leaf : entry r.leaf ≡ leaf_of s g

-- ---- writing a row

-- the store with a new key, text and number in row e
abbrev pub put_group : Store → (e k a l i : ℕ) → Store
put_group s e k a l i = with_group_table s (push_row s.group_rows e k 0 a l i) s.group_heads

-- ---- adding a group

-- what `push_group` requires: an index that no group has, a path in the texts, and space for both
pub record NewGroup (m : List ℕ) (index at len slots : ℕ) : Type 0 where
  pub good : WellFormed m
  pub new : index_place index (held m).groups ≡ none
  pub few : (header_of m).groups < (allowances_of m).groups
  pub placed : TextPlaced (header_of m).used (store_of m).texts at len
  pub handles : slots ≤ 65536
  pub space : (header_of m).held + len ≤ (allowances_of m).text

-- the group with at least n slots
abbrev pub grown_group : ℕ → Group → Group
grown_group n g = record { path = g.path; index = g.index; slots = grown n g.slots }

-- nothing was found, or e was found
abbrev pub Only : ℕ → Option ℕ → Type 0
Only e none = Unit {0}
Only e (some j) = j ≡ e

-- what changing group e requires. The index belongs to no other group, and the bytes of the old path count as free
pub record OldGroup (m : List ℕ) (e index at l slots : ℕ) : Type 0 where
  pub good : WellFormed m
  pub known : e < (header_of m).groups
  pub free : Only e (index_place index (held m).groups)
  pub placed : TextPlaced (header_of m).used (store_of m).texts at l
  pub handles : slots ≤ 65536
  pub space : (header_of m).held - len (store_of m).group_rows e + l ≤ (allowances_of m).text

-- the fields of group e have handles below n
abbrev pub Handles : Store → ℕ → ℕ → Type 0
Handles s e n = (j : ℕ) → j < s.header.fields → key s.field_rows j / 65536 ≡ e → key s.field_rows j % 65536 < n

-- the group that the new row represents: its slots are filled by the fields it has
unfoldable pub group_of : Store → (e index at l slots : ℕ) → Group
group_of s e index at l slots = record { path = part s.texts at l; index = index; slots = up_to (slot_by s s.header.fields e) slots }

-- ---- replacing a group that has no fields

-- the slots of group e are empty
abbrev pub Emptied : Content → ℕ → Type 0
Emptied c e = (q : ℕ) → slot_at c.groups e q ≡ empty
