-- The check of a lent book (document 01, refusal 2; docs/LAYOUT.md, The check). It accepts a memory if its numbers are in bounds, its texts
-- are UTF-8, and each record is found by its keys.
use Rattle.std.specs.Prelude.{ℕ, ◌+◌, ◌*◌, ◌/◌, ◌%◌, ◌^◌, Bool, true, false, ◌&&◌, List, length, ◌==◌, nat_le, nat_lt}
use Rattle.std.proofs.Math.Option.{Option, none, some}
use Rattle.vrf_text.specs.Utf8.{utf8}
use Rattle.vrf_path.specs.Leaf.{leaf}
use Rattle.vrf_model.specs.Book.{Allowances}
use Rattle.vrf_model.specs.Lookup.{Claim, absent, ambiguous, claimed}
use Rattle.vrf_table.specs.Table.{key, at, len, info, text, find_key}
use Rattle.vrf_table.specs.TextIndex.{key_numbered, find_path, claim_of}
use Rattle.vrf_store.specs.UpTo.{all_below, sum_below}
use Rattle.vrf_store.specs.Layout
use Rattle.vrf_store.specs.Store.{Header, Store, header_of, store_by}

-- ---- the header

-- no allowance is above its top
unfoldable pub tops_ok : Allowances → Bool
tops_ok a = nat_le a.guids 1000000 && (nat_le a.groups 100000 && (nat_le a.fields 1000000 && (nat_le a.text 67108864 && nat_le a.literals 1000000)))

unfoldable pub header_ok : Header → Bool
header_ok h = nat_le h.guids h.allowed.guids && (nat_le h.groups h.allowed.groups && (nat_le h.fields h.allowed.fields && (nat_le h.held h.allowed.text && (nat_le h.used h.allowed.text && nat_le h.half 1))))

-- ---- rows

-- the text of row e is inside the bytes used, has at most 4096 bytes and is UTF-8
unfoldable pub text_ok : ℕ → List ℕ → List ℕ → ℕ → Bool
text_ok used x r e = nat_le (at r e + len r e) used && (nat_le (len r e) 4096 && utf8 (text r x e))

unfoldable pub is_place : ℕ → Option ℕ → Bool
is_place e none = false
is_place e (some i) = i == e

-- the key of row e finds row e. If this holds of all rows, no two have the same key
unfoldable pub found_ok : List ℕ → List ℕ → ℕ → ℕ → ℕ → Bool
found_ok r heads b n e = is_place e (find_key r heads b n (key r e))

unfoldable pub is32 : ℕ → Bool
is32 n = nat_lt n (2 ^ 32)

unfoldable pub guid_ok : Store → ℕ → Bool
guid_ok s e =
    text_ok s.header.used s.texts s.guid_rows e && (is32 (key s.guid_rows e) && (is32 (info s.guid_rows e)
    && found_ok s.guid_rows s.guid_heads (Layout.guid_buckets s.header.allowed) s.header.guids e))

-- ---- groups

-- the walk found entry e or a later one
unfoldable pub not_before : ℕ → Option ℕ → Bool
not_before e none = false
not_before e (some i) = nat_le e i

-- if the group has this key, the key finds entry e or a later one
unfoldable pub reach_ok : (List ℕ → Option ℕ) → ℕ → Option (List ℕ) → Bool
reach_ok find e none = true
reach_ok find e (some k) = not_before e (find k)

unfoldable pub key_ok : Store → ℕ → Bool
key_ok s e = reach_ok (find_path s.group_rows s.texts s.path_links s.path_heads (Layout.path_buckets s.header.allowed) s.header.groups) e (key_numbered (text s.group_rows s.texts (e / 3)) (e % 3))

-- the leaf is claimed by group e, or ambiguous
unfoldable pub is_settled : ℕ → Claim → Bool
is_settled e absent = false
is_settled e ambiguous = true
is_settled e (claimed i) = i == e

unfoldable pub settled_ok : (List ℕ → Claim) → ℕ → Option (List ℕ) → Bool
settled_ok claim e none = true
settled_ok claim e (some l) = is_settled e (claim l)

unfoldable pub leaf_ok : Store → ℕ → Bool
leaf_ok s e = settled_ok (claim_of s.group_rows s.texts s.leaf_links s.leaf_heads (Layout.leaf_buckets s.header.allowed) s.header.groups) e (leaf (text s.group_rows s.texts e))

unfoldable pub group_ok : Store → ℕ → Bool
group_ok s e =
    text_ok s.header.used s.texts s.group_rows e && (is32 (key s.group_rows e) && (nat_le (info s.group_rows e) 65536
    && (found_ok s.group_rows s.group_heads (Layout.group_buckets s.header.allowed) s.header.groups e
    && (key_ok s (3 * e) && (key_ok s (3 * e + 1) && (key_ok s (3 * e + 2) && leaf_ok s e))))))

-- ---- fields

-- k is the key of a slot that a group has
unfoldable pub slot_ok : Store → ℕ → Bool
slot_ok s k = nat_lt (k / 65536) s.header.groups && nat_lt (k % 65536) (info s.group_rows (k / 65536))

unfoldable pub field_ok : Store → ℕ → Bool
field_ok s e =
    text_ok s.header.used s.texts s.field_rows e && (slot_ok s (key s.field_rows e) && (is32 (info s.field_rows e)
    && found_ok s.field_rows s.field_heads (Layout.field_buckets s.header.allowed) s.header.fields e))

-- ---- the whole check

-- the sum of the lengths of all texts
unfoldable pub text_sum : Store → ℕ
text_sum s = sum_below (len s.guid_rows) s.header.guids + sum_below (len s.group_rows) s.header.groups + sum_below (len s.field_rows) s.header.fields

unfoldable pub store_ok : Store → Bool
store_ok s = all_below (guid_ok s) s.header.guids && (all_below (group_ok s) s.header.groups && (all_below (field_ok s) s.header.fields && text_sum s == s.header.held))

-- a memory of n bytes has a whole header, allowances within their tops and the bytes they need, and its counts are in bounds
unfoldable pub bounds_ok : Header → ℕ → Bool
bounds_ok h n = nat_le 128 n && (tops_ok h.allowed && (nat_le (Layout.need h.allowed) n && header_ok h))

unfoldable pub check : List ℕ → Bool
check m = bounds_ok (header_of m) (length m) && store_ok (store_by (header_of m) m)
