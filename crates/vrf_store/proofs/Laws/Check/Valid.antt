-- The check accepts exactly the valid stores, and exactly the well-formed memories. The laws about changes use this.
use Rattle.std.specs.Prelude.{◌≡◌, ℕ, ◌+◌, ◌*◌, ◌/◌, ◌%◌, ◌<◌, ◌≤◌, Bool, true, ◌↔◌, List, length}
use Rattle.std.proofs.Common.{◌∙◌}
use native.Mathlib.Omega.{arith}
use Rattle.vrf_path.specs.Leaf.{leaf}
use Rattle.vrf_words.specs.Words.{word}
use Rattle.vrf_words.proofs.Laws.Words.{length_part}
use Rattle.vrf_table.specs.Table.{text}
use Rattle.vrf_table.specs.TextIndex.{text_start, key_numbered, path_hit, find_path, leaf_hit, leaf_start, claim_of}
use Rattle.vrf_table.specs.Inner.Index.{FindsLast, FindsClaim}
use Rattle.vrf_table.proofs.Laws.Chain.{by_equal}
use Rattle.vrf_store.specs.Layout
use Rattle.vrf_store.specs.Store.{Header, Store, allowances_of, header_of, half_at, words, store_by, store_of}
use Rattle.vrf_store.specs.Check.{is32, guid_ok, key_ok, leaf_ok, group_ok, slot_ok, field_ok, store_ok, bounds_ok, check}
use Rattle.vrf_store.specs.Inner.Valid.{Shaped, ValidHeader, Valid}
use Rattle.vrf_store.proofs.Laws.Memory.UpTo.{and-true}
use Rattle.vrf_store.proofs.Laws.Memory.Regions.{half-within}
use Rattle.vrf_store.proofs.Laws.Check.Check.{header-good, good-header, found-table, table-text, table-found, reach-iff, settle-iff, test-facts}

-- a test of all path entries is a test of three entries for each group
thirds : (ok : ℕ → Bool) (n : ℕ) → ((e : ℕ) → e < n → (ok (3 * e) ≡ true) × ((ok (3 * e + 1) ≡ true) × (ok (3 * e + 2) ≡ true))) → (i : ℕ) → i < 3 * n → ok i ≡ true
thirds ok n h i k =
    let three = h (i / 3) (omega arith) in
    by_equal (i % 3) 0
    (λ q. let p : i ≡ 3 * (i / 3) = omega arith in rw p three.0)
    (λ z. by_equal (i % 3) 1
    (λ q. let p : i ≡ 3 * (i / 3) + 1 = omega arith in rw p three.1.0)
    (λ y. let p : i ≡ 3 * (i / 3) + 2 = omega (arith, z, y) in rw p three.1.1))

-- ---- a store

module _ (s : Store) where
  -- the tests of the path keys pass exactly if each key finds its last entry
  keys-iff : ((e : ℕ) → e < 3 * s.header.groups → key_ok s e ≡ true)
      ↔ FindsLast (path_hit s.group_rows s.texts) (word s.path_links) (text_start s.path_heads (Layout.path_buckets s.header.allowed)) (3 * s.header.groups)
  unfolding key_ok find_path path_hit
  keys-iff = reach-iff (λ e. key_numbered (text s.group_rows s.texts (e / 3)) (e % 3)) (word s.path_links) (text_start s.path_heads (Layout.path_buckets s.header.allowed)) (3 * s.header.groups)

  -- the tests of the leaves pass exactly if each leaf has the correct claim
  leaves-iff : ((e : ℕ) → e < s.header.groups → leaf_ok s e ≡ true)
      ↔ FindsClaim (leaf_hit s.group_rows s.texts) (word s.leaf_links) (leaf_start s.leaf_heads (Layout.leaf_buckets s.header.allowed)) s.header.groups
  unfolding leaf_ok claim_of leaf_hit
  leaves-iff = settle-iff (λ e. leaf (text s.group_rows s.texts e)) (word s.leaf_links) (leaf_start s.leaf_heads (Layout.leaf_buckets s.header.allowed)) s.header.groups

  pub ok-valid : Shaped s → ValidHeader s.header → store_ok s ≡ true → Valid s
  unfolding store_ok guid_ok is32 group_ok field_ok slot_ok
  ok-valid shaped header h =
      let fits : s.header.used ≤ length s.texts = omega arith in
      let facts = simp test-facts at h in
      let guid = facts.0 in
      let group = facts.1.0 in
      let field = facts.1.1.0 in
      record {
        shaped = shaped;
        header = header;
        guid_table = found-table fits (λ e k. (guid e k).0) (λ e k. (guid e k).1.1.1);
        guids = λ e k. ((guid e k).1.0, (guid e k).1.1.0);
        group_table = found-table fits (λ e k. (group e k).0) (λ e k. (group e k).1.1.1.0);
        groups = λ e k. ((group e k).1.0, (group e k).1.1.0);
        paths = keys-iff.0 (thirds (key_ok s) s.header.groups (λ e k. let keys = (group e k).1.1.1.1 in (keys.0, (keys.1.0, keys.1.1.0))));
        leaves = leaves-iff.0 (λ e k. (group e k).1.1.1.1.1.1.1);
        field_table = found-table fits (λ e k. (field e k).0) (λ e k. (field e k).1.1.1);
        fields = λ e k. (record { place = (field e k).1.0.0; slot = (field e k).1.0.1 }, (field e k).1.1.0);
        total = facts.1.1.1;
      }

module _ {s : Store} (v : Valid s) where
  -- the bytes used are inside the texts
  pub valid-fits : s.header.used ≤ length s.texts
  valid-fits = omega (arith, v.shaped.texts, v.header.used)

  guid-ok : (e : ℕ) → e < s.header.guids → guid_ok s e ≡ true
  unfolding guid_ok is32
  guid-ok e k = simp test-facts (table-text valid-fits v.guid_table e k, ((v.guids e k).0, ((v.guids e k).1, table-found v.guid_table e k)))

  path-ok : (i : ℕ) → i < 3 * s.header.groups → key_ok s i ≡ true
  path-ok = (keys-iff s).1 v.paths

  group-ok : (e : ℕ) → e < s.header.groups → group_ok s e ≡ true
  unfolding group_ok is32
  group-ok e k = simp test-facts (table-text valid-fits v.group_table e k, ((v.groups e k).0, ((v.groups e k).1, (table-found v.group_table e k, (path-ok (3 * e) (omega arith), (path-ok (3 * e + 1) (omega arith), (path-ok (3 * e + 2) (omega arith), (leaves-iff s).1 v.leaves e k)))))))

  field-ok : (e : ℕ) → e < s.header.fields → field_ok s e ≡ true
  unfolding field_ok slot_ok is32
  field-ok e k =
      let slot = (v.fields e k).0 in
      simp test-facts (table-text valid-fits v.field_table e k, ((slot.place, slot.slot), ((v.fields e k).1, table-found v.field_table e k)))

  pub valid-ok : store_ok s ≡ true
  unfolding store_ok
  valid-ok = simp test-facts (guid-ok, (group-ok, (field-ok, v.total)))

-- ---- a memory

pub words-length : (m : List ℕ) (i n : ℕ) → 4 * (i + n) ≤ length m → length (words m i n) ≡ 4 * n
unfolding words
words-length m i n h = length_part m (4 * i) (4 * n) (omega arith)

-- a memory with the bytes that its allowances need has all parts in full
pub need-shaped : (h : Header) (m : List ℕ) → Layout.need h.allowed ≤ length m → Shaped (store_by h m)
unfolding store_by
need-shaped h m fits = record {
  guid_rows = words-length m _ _ (omega arith) ∙ omega arith;
  guid_heads = words-length m _ _ (omega arith);
  group_rows = words-length m _ _ (omega arith) ∙ omega arith;
  group_heads = words-length m _ _ (omega arith);
  path_links = words-length m _ _ (omega arith) ∙ omega arith;
  path_heads = words-length m _ _ (omega arith);
  leaf_links = words-length m _ _ (omega arith);
  leaf_heads = words-length m _ _ (omega arith);
  field_rows = words-length m _ _ (omega arith) ∙ omega arith;
  field_heads = words-length m _ _ (omega arith);
  texts = length_part m (half_at h.allowed h.half) h.allowed.text (omega (arith, half-within h.allowed h.half, fits));
}

module _ (m : List ℕ) where
  pub laid-shaped : bounds_ok (header_of m) (length m) ≡ true → Shaped (store_of m)
  unfolding bounds_ok store_of
  laid-shaped h = let facts = simp test-facts at h in need-shaped (header_of m) m facts.1.1.0

  pub check-valid : check m ≡ true → Valid (store_of m)
  unfolding check bounds_ok store_of store_by
  check-valid h =
      let both = and-true (bounds_ok (header_of m) (length m)) (store_ok (store_of m)) h in
      let laid = simp test-facts at both.0 in
      ok-valid (store_of m) (laid-shaped both.0) (header-good (header_of m) laid.1.0 laid.1.1.1) both.1

  pub valid-check : 128 ≤ length m → Layout.need (allowances_of m) ≤ length m → Valid (store_of m) → check m ≡ true
  unfolding check bounds_ok store_of store_by header_of
  valid-check header enough v =
      let good = good-header (header_of m) v.header in
      simp test-facts ((header, (good.0, (enough, good.1))), valid-ok v)
