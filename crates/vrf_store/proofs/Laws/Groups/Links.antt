-- A change of only links and heads keeps everything else valid, and keeps the book.
use Rattle.std.specs.Prelude.{◌≡◌, ℕ, ◌+◌, ◌*◌, ◌/◌, ◌<◌, ◌≤◌, List, length, refl}
use Rattle.std.proofs.Common.{sym, subst, ◌∙◌, arith}
use Rattle.std.proofs.Math.Path.{ap}
use Rattle.std.proofs.Math.Option.{Option, none, some}
use Rattle.vrf_path.specs.Leaf.{leaf}
use Rattle.vrf_words.specs.Words.{word}
use Rattle.vrf_model.specs.Book.{Group, Allowances}
use Rattle.vrf_table.specs.Table.{key, len, text}
use Rattle.vrf_table.specs.TextIndex.{key_numbered, claim_of}
use Rattle.vrf_table.proofs.Laws.Table.{key_bucket-lt}
use Rattle.vrf_store.specs.UpTo.{up_to}
use Rattle.vrf_store.specs.Layout
use Rattle.vrf_store.specs.Store.{Store, guid_at, field_at, slot_by, group_by, content_of}
use Rattle.vrf_store.specs.Check.{text_sum}
use Rattle.vrf_store.specs.Inner.Valid.{Shaped}
use Rattle.vrf_store.specs.Inner.Groups.{linked, BucketBelow, Unindexed, push_key, push_path, push_leaf, key_of, path_of, leaf_of, SameRows, with_links, Relinked}
use Rattle.vrf_store.proofs.Laws.Memory.UpTo.{up_to-ext, sum_below-ext}
use Rattle.vrf_store.proofs.Laws.Memory.Rows.{good-text}
use Rattle.vrf_store.proofs.Laws.Groups.TextIndex.{by-text, by-base, bucket_of-below, joined_by-below, length-linked, length-headed}
use Rattle.vrf_store.proofs.Laws.Groups.Joining.{index_group}
use Rattle.vrf_store.proofs.Laws.Groups.Index.{same_text, link-rows}

pub same_rows : (r : List ℕ) → SameRows r r
same_rows r = record { keys = λ e. refl; ats = λ e. refl; lens = λ e. refl; infos = λ e. refl; long = refl }

pub relinked-refl : (s : Store) → Relinked s s
relinked-refl s = record {
  rest = refl;
  rows = same_rows s.group_rows;
  group_heads = refl;
  path_links = refl;
  path_heads = refl;
  leaf_links = refl;
  leaf_heads = refl;
}

pub relinked-trans : {s s' s'' : Store} → Relinked s s' → Relinked s' s'' → Relinked s s''
relinked-trans {s'' = t} p q = record {
  rest = q.rest ∙ ap (λ (z : Store). with_links z t.group_rows t.group_heads t.path_links t.path_heads t.leaf_links t.leaf_heads) p.rest;
  rows = record {
    keys = λ e. q.rows.keys e ∙ p.rows.keys e;
    ats = λ e. q.rows.ats e ∙ p.rows.ats e;
    lens = λ e. q.rows.lens e ∙ p.rows.lens e;
    infos = λ e. q.rows.infos e ∙ p.rows.infos e;
    long = q.rows.long ∙ p.rows.long;
  };
  group_heads = q.group_heads ∙ p.group_heads;
  path_links = q.path_links ∙ p.path_links;
  path_heads = q.path_heads ∙ p.path_heads;
  leaf_links = q.leaf_links ∙ p.leaf_links;
  leaf_heads = q.leaf_heads ∙ p.leaf_heads;
}

module _ (s : Store) (r h pl ph ll lh : List ℕ) (same : SameRows s.group_rows r) where
  abbrev s' : Store
  s' = with_links s r h pl ph ll lh

  with-content : content_of s' ≡ content_of s
  unfolding content_of guid_at group_by slot_by field_at
  with-content = ap (λ (l : List Group). record { allowed = s.header.allowed; guids = up_to (guid_at s) s.header.guids; groups = l })
      (up_to-ext (group_by s' s.header.fields) (group_by s s.header.fields) s.header.groups
      (λ e k. rw (same_text same s.texts e, same.keys e, same.infos e)))

  with-unindexed : Shaped s' → Unindexed s → Unindexed s'
  unfolding text_sum
  with-unindexed shaped u = record {
    shaped = shaped;
    header = u.header;
    guid_table = u.guid_table;
    guids = u.guids;
    texts = λ e k. good-text s.header.used s.texts s.group_rows r e e (sym (same.ats e)) (sym (same.lens e)) (u.texts e k);
    distinct = λ i j k l q. u.distinct i j k l (sym (same.keys i) ∙ q ∙ same.keys j);
    groups = λ e k. rw (same.keys e, same.infos e) (u.groups e k);
    field_table = u.field_table;
    fields = λ e k. let f = u.fields e k in (record { place = f.0.place; slot = rw (same.infos (key s.field_rows e / 65536)) f.0.slot }, f.1);
    total = rw (sum_below-ext (len r) (len s.group_rows) s.header.groups (λ e k. same.lens e)) u.total;
  }

module _ {s s' : Store} (p : Relinked s s') where
  pub relinked-header : s'.header ≡ s.header
  relinked-header = ap (λ (z : Store). z.header) p.rest

  pub relinked-literals : s'.literals ≡ s.literals
  relinked-literals = ap (λ (z : Store). z.literals) p.rest

  pub relinked-content : content_of s' ≡ content_of s
  relinked-content = ap content_of p.rest ∙ with-content s _ _ _ _ _ _ p.rows

  pub relinked-unindexed : Unindexed s → Unindexed s'
  relinked-unindexed u = subst (λ (z : Store). Unindexed z) (sym p.rest) (with-unindexed s _ _ _ _ _ _ p.rows shaped u)
    where
      shaped : Shaped (with_links s s'.group_rows s'.group_heads s'.path_links s'.path_heads s'.leaf_links s'.leaf_heads)
      shaped = record {
        guid_rows = u.shaped.guid_rows;
        guid_heads = u.shaped.guid_heads;
        group_rows = p.rows.long ∙ u.shaped.group_rows;
        group_heads = p.group_heads ∙ u.shaped.group_heads;
        path_links = p.path_links ∙ u.shaped.path_links;
        path_heads = p.path_heads ∙ u.shaped.path_heads;
        leaf_links = p.leaf_links ∙ u.shaped.leaf_links;
        leaf_heads = p.leaf_heads ∙ u.shaped.leaf_heads;
        field_rows = u.shaped.field_rows;
        field_heads = u.shaped.field_heads;
        texts = u.shaped.texts;
      }

-- putting one entry at the front of a chain is such a change

module _ (s : Store) (e b : ℕ) where
  key-relinked : (o : Option ℕ) → 24 * e + 24 ≤ length s.group_rows → 4 * b ≤ length s.group_heads → BucketBelow b o → Relinked s (push_key s e o)
  unfolding push_key linked
  key-relinked o fits buckets below = record {
    rest = refl;
    rows = go o;
    group_heads = length-headed s.group_heads b (e + 1) buckets o below;
    path_links = refl;
    path_heads = refl;
    leaf_links = refl;
    leaf_heads = refl;
  }
    where
      go : (o : Option ℕ) → SameRows s.group_rows (linked s.group_rows s.group_heads (6 * e + 2) o)
      go none = same_rows s.group_rows
      go (some h) = link-rows s.group_rows e (word s.group_heads h) fits

  path-relinked : (o : Option ℕ) → 4 * e + 4 ≤ length s.path_links → 4 * b ≤ length s.path_heads → BucketBelow b o → Relinked s (push_path s e o)
  unfolding push_path
  path-relinked o fits buckets below = record {
    rest = refl;
    rows = same_rows s.group_rows;
    group_heads = refl;
    path_links = length-linked s.path_links s.path_heads e fits o;
    path_heads = length-headed s.path_heads b (e + 1) buckets o below;
    leaf_links = refl;
    leaf_heads = refl;
  }

  leaf-relinked : (o : Option ℕ) → 4 * e + 4 ≤ length s.leaf_links → 4 * b ≤ length s.leaf_heads → BucketBelow b o → Relinked s (push_leaf s e o)
  unfolding push_leaf
  leaf-relinked o fits buckets below = record {
    rest = refl;
    rows = same_rows s.group_rows;
    group_heads = refl;
    path_links = refl;
    path_heads = refl;
    leaf_links = length-linked s.leaf_links s.leaf_heads e fits o;
    leaf_heads = length-headed s.leaf_heads b (e + 1) buckets o below;
  }

-- the buckets of a group are in range
module _ (s : Store) (g : ℕ) where
  abbrev a : Allowances
  a = s.header.allowed

  pub key_below : BucketBelow (Layout.group_buckets a) (key_of s g)
  key_below = key_bucket-lt (Layout.group_buckets a) (key s.group_rows g) (omega arith)

  pub path-below : (j : ℕ) → BucketBelow (Layout.path_buckets a) (path_of s g j)
  path-below j = bucket_of-below (by-text (Layout.path_buckets a) (omega arith)) (key_numbered (text s.group_rows s.texts g) j)

  pub leaf-below : BucketBelow (Layout.leaf_buckets a) (leaf_of s g)
  leaf-below = joined_by-below (claim_of s.group_rows s.texts s.leaf_links s.leaf_heads (Layout.leaf_buckets a) g) (by-base (Layout.leaf_buckets a) (omega arith)) (leaf (text s.group_rows s.texts g))

module _ (s : Store) (g : ℕ) (shaped : Shaped s) (low : g < s.header.allowed.groups) where
  pub index-relinked : Relinked s (index_group s g)
  unfolding index_group
  index-relinked =
      let b = Layout.path_buckets s.header.allowed in
      let k = key-relinked s g (Layout.group_buckets s.header.allowed) (key_of s g) (omega (arith, shaped.group_rows)) (omega (arith, shaped.group_heads)) (key_below s g) in
      let p0 = relinked-trans k (path-relinked (push_key s g (key_of s g)) (3 * g) b (path_of s g 0) (omega (arith, shaped.path_links, k.path_links)) (omega (arith, shaped.path_heads, k.path_heads)) (path-below s g 0)) in
      let p1 = relinked-trans p0 (path-relinked _ (3 * g + 1) b (path_of s g 1) (omega (arith, shaped.path_links, p0.path_links)) (omega (arith, shaped.path_heads, p0.path_heads)) (path-below s g 1)) in
      let p2 = relinked-trans p1 (path-relinked _ (3 * g + 2) b (path_of s g 2) (omega (arith, shaped.path_links, p1.path_links)) (omega (arith, shaped.path_heads, p1.path_heads)) (path-below s g 2)) in
      relinked-trans p2 (leaf-relinked _ g (Layout.leaf_buckets s.header.allowed) (leaf_of s g) (omega (arith, shaped.leaf_links, p2.leaf_links)) (omega (arith, shaped.leaf_heads, p2.leaf_heads)) (leaf-below s g))
