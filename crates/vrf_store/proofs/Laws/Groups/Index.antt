-- Laws about the three indexes: a group that is added to them is found, and so are the groups before it.
use Rattle.std.specs.Prelude.{◌≡◌, ℕ, suc, ◌+◌, ◌*◌, ◌^◌, ◌<◌, ◌≤◌, ◌≢◌, List, length, refl}
use Rattle.std.proofs.Common.{sym, subst, ◌∙◌, arith}
use Rattle.std.proofs.Math.Path.{ap}
use Rattle.std.proofs.Math.Option.{Option, none, some}
use borrow.Author.Tests.{ne_eqb}
use Rattle.vrf_bitio.specs.Bits.{Bytes}
use Rattle.vrf_path.specs.Keys.{key_is}
use Rattle.vrf_path.specs.Leaf.{leaf}
use Rattle.vrf_words.specs.Words.{word}
use Rattle.vrf_words.specs.Inner.Words.{set_word}
use Rattle.vrf_words.proofs.Laws.Words.{length-set_word, word-set_word-same, word-set_word-other, word_bound}
use Rattle.vrf_model.specs.Book.{Allowances}
use Rattle.vrf_model.specs.Lookup.{Claim, absent, ambiguous, claimed}
use Rattle.vrf_table.specs.Chain.{walk, last_below}
use Rattle.vrf_table.specs.Index.{claim_walk, claim_from}
use Rattle.vrf_table.specs.Table.{key, link, at, len, info, text, key_hit, key_bucket, key_start}
use Rattle.vrf_table.specs.TextIndex.{text_bucket, text_start, key_numbered, path_hit, leaf_hit, leaf_start, claim_of}
use Rattle.vrf_table.specs.Inner.Index.{FindsLast, FindsClaim, claim_below}
use Rattle.vrf_table.specs.Inner.TextIndex.{leaf_bucket}
use Rattle.vrf_table.proofs.Laws.Chain.{by_equal}
use Rattle.vrf_table.proofs.Laws.Index.{Chained, latest-grown, kept, newest}
use Rattle.vrf_table.proofs.Laws.Table.{key_bucket-lt}
use Rattle.vrf_store.specs.Layout
use Rattle.vrf_store.specs.Store.{Store}
use Rattle.vrf_store.specs.Inner.Valid.{Shaped, Valid}
use Rattle.vrf_store.specs.Inner.Groups.{bucket_of, linked, headed, unless_shared, joined_by, Indexed, Unindexed, push_key, push_path, push_leaf, SameRows}
use Rattle.vrf_store.proofs.Laws.Lookups.{path-entry}
use Rattle.vrf_store.proofs.Laws.Groups.TextIndex.{same-paths, same-leaves, length-linked, by-text, by-base, NewEntry, latest-entry, claims-entry, claims-shared, next-entry}
use Rattle.vrf_store.proofs.Laws.Groups.Joining.{index_group}

-- ---- a valid store in two parts: the indexes of the groups, and the rest

pub valid-unindexed : {s : Store} → Valid s → Unindexed s
valid-unindexed v = record {
  shaped = v.shaped;
  header = v.header;
  guid_table = v.guid_table;
  guids = v.guids;
  texts = v.group_table.texts;
  distinct = v.group_table.distinct;
  groups = v.groups;
  field_table = v.field_table;
  fields = v.fields;
  total = v.total;
}

pub valid-indexed : {s : Store} → Valid s → Indexed s s.header.groups
valid-indexed v = record { keys = v.group_table.latest; paths = v.paths; leaves = v.leaves }

pub halves-valid : {s : Store} → Unindexed s → Indexed s s.header.groups → Valid s
halves-valid u i = record {
  shaped = u.shaped;
  header = u.header;
  guid_table = u.guid_table;
  guids = u.guids;
  group_table = record { texts = u.texts; distinct = u.distinct; latest = i.keys };
  groups = u.groups;
  paths = i.paths;
  leaves = i.leaves;
  field_table = u.field_table;
  fields = u.fields;
  total = u.total;
}

-- for no groups at all, any indexes are correct
pub none-indexed : (s : Store) → Indexed s 0
unfolding walk last_below claim_walk claim_below claim_from
none-indexed s = record { keys = λ y. refl; paths = λ y. refl; leaves = λ y. refl }

-- ---- rows that differ only in their links

module _ {r r' : List ℕ} (same : SameRows r r') (x : List ℕ) where
  pub same_text : (e : ℕ) → text r' x e ≡ text r x e
  unfolding text
  same_text e = rw (same.ats e, same.lens e)

-- ---- writing the link of row n

module _ (r : List ℕ) (n p : ℕ) (fits : 24 * n + 24 ≤ length r) where
  abbrev relinked : List ℕ
  relinked = set_word r (6 * n + 2) p

  other_word : (i : ℕ) → i ≢ 6 * n + 2 → word relinked i ≡ word r i
  other_word i ne = word-set_word-other r (6 * n + 2) p i (omega arith) ne

  link-same : p < 2 ^ 32 → link relinked n ≡ p
  unfolding link
  link-same h = word-set_word-same r (6 * n + 2) p (omega arith) h

  link-other : (e : ℕ) → e ≢ n → link relinked e ≡ link r e
  unfolding link
  link-other e ne = other_word (6 * e + 2) (λ q. ne (omega (arith, q)))

  pub link-rows : SameRows r relinked
  unfolding key at len info
  link-rows = record {
    keys = λ e. rw (other_word (6 * e) (λ q. omega (arith, q)), other_word (6 * e + 1) (λ q. omega (arith, q)));
    ats = λ e. other_word (6 * e + 3) (λ q. omega (arith, q));
    lens = λ e. other_word (6 * e + 4) (λ q. omega (arith, q));
    infos = λ e. other_word (6 * e + 5) (λ q. omega (arith, q));
    long = length-set_word r (6 * n + 2) p (omega arith);
  }

-- ---- adding row n to the index by path-name index

module _ (r heads : List ℕ) (b n : ℕ) (fits : 24 * n + 24 ≤ length r) (buckets : 4 * b ≤ length heads) (some-bucket : 0 < b) (few : n + 1 < 2 ^ 32) (bytes : Bytes heads) where
  abbrev h : ℕ
  h = key_bucket b (key r n)

  abbrev r' : List ℕ
  r' = set_word r (6 * n + 2) (word heads h)

  abbrev heads' : List ℕ
  heads' = set_word heads h (n + 1)

  in-heads : 4 * h + 4 ≤ length heads
  in-heads = omega (arith, key_bucket-lt b (key r n) some-bucket, buckets)

  same-hit : (y e : ℕ) → key_hit r' y e ≡ key_hit r y e
  unfolding key_hit
  same-hit y e = rw ((link-rows r n (word heads h) fits).keys e)

  key-chained : (y : ℕ) → Chained (key_hit r) (key_hit r') (link r) (link r') (key_start heads b) (key_start heads' b) n y
  unfolding key_hit key_start
  key-chained y = by_equal (key_bucket b y) h
      (λ q. newest (ap (word heads') q ∙ word-set_word-same heads h (n + 1) in-heads few ∙ omega arith)
      (link-same r n (word heads h) fits (word_bound heads h bytes) ∙ ap (word heads) (sym q)))
      (λ q. kept (same-hit y n ∙ ne_eqb (key r n) y (λ z. q (ap (key_bucket b) (sym z))))
      (word-set_word-other heads h (n + 1) (key_bucket b y) in-heads q))

  latest-key : FindsLast (key_hit r) (link r) (key_start heads b) n → FindsLast (key_hit r') (link r') (key_start heads' b) (suc n)
  latest-key = latest-grown (key_hit r) (key_hit r') (link r) (link r') (key_start heads b) (key_start heads' b) n (record {
    hits = λ y e k. sym (same-hit y e);
    links = λ e k. sym (link-other r n (word heads h) fits e (λ q. omega (arith, k, q)));
    chains = key-chained;
  })

-- ---- adding the three keys of group n's path to the path index

module _ (r x l0 h0 : List ℕ) (b n : ℕ) (space : 12 * n + 12 ≤ length l0) (buckets : 4 * b ≤ length h0) (some-bucket : 0 < b) (few : 3 * n + 3 < 2 ^ 32) (bytes : Bytes h0) where
  abbrev key_of : ℕ → Option (List ℕ)
  key_of j = key_numbered (text r x n) j

  abbrev l1 : List ℕ
  l1 = linked l0 h0 (3 * n) (bucket_of (text_bucket b) (key_of 0))

  abbrev h1 : List ℕ
  h1 = headed h0 (3 * n + 1) (bucket_of (text_bucket b) (key_of 0))

  abbrev l2 : List ℕ
  l2 = linked l1 h1 (3 * n + 1) (bucket_of (text_bucket b) (key_of 1))

  abbrev h2 : List ℕ
  h2 = headed h1 (3 * n + 1 + 1) (bucket_of (text_bucket b) (key_of 1))

  abbrev l3 : List ℕ
  l3 = linked l2 h2 (3 * n + 2) (bucket_of (text_bucket b) (key_of 2))

  abbrev h3 : List ℕ
  h3 = headed h2 (3 * n + 2 + 1) (bucket_of (text_bucket b) (key_of 2))

  entry : (e j : ℕ) → e ≡ 3 * n + j → j < 3 → (t : List ℕ) → path_hit r x t e ≡ key_is (key_of j) t
  entry e j q k t = ap (path_hit r x t) q ∙ path-entry r x t n j k

  latest-paths : FindsLast (path_hit r x) (word l0) (text_start h0 b) (3 * n) → FindsLast (path_hit r x) (word l3) (text_start h3 b) (3 * suc n)
  latest-paths known =
      let e0 = entry (3 * n) 0 (omega arith) (omega arith) in
      let e1 = entry (3 * n + 1) 1 refl (omega arith) in
      let e2 = entry (3 * n + 2) 2 refl (omega arith) in
      let go = by-text b some-bucket in
      let w0 : NewEntry l0 h0 b (3 * n) = record { fits = omega arith; buckets = buckets; few = omega arith; bytes = bytes } in
      let w1 = next-entry go (path_hit r x) l0 h0 (3 * n) w0 (key_of 0) e0 (omega arith) (omega arith) in
      let two : 3 * n + 1 + 1 ≡ 3 * n + 2 = omega arith in
      let w2 = subst (λ (e : ℕ). NewEntry l2 h2 b e) two (next-entry go (path_hit r x) l1 h1 (3 * n + 1) w1 (key_of 1) e1 (omega (arith, length-linked l0 h0 (3 * n) w0.fits (bucket_of (text_bucket b) (key_of 0)))) (omega arith)) in
      let one : suc (3 * n) ≡ 3 * n + 1 = omega arith in
      let next : suc (3 * n + 1) ≡ 3 * n + 2 = omega arith in
      let three : suc (3 * n + 2) ≡ 3 * suc n = omega arith in
      let k1 = subst (λ (e : ℕ). FindsLast (path_hit r x) (word l1) (text_start h1 b) e) one (latest-entry go (path_hit r x) l0 h0 (3 * n) w0 (key_of 0) e0 known) in
      let k2 = subst (λ (e : ℕ). FindsLast (path_hit r x) (word l2) (text_start h2 b) e) next (latest-entry go (path_hit r x) l1 h1 (3 * n + 1) w1 (key_of 1) e1 k1) in
      subst (λ (e : ℕ). FindsLast (path_hit r x) (word l3) (text_start h3 b) e) three (latest-entry go (path_hit r x) l2 h2 (3 * n + 2) w2 (key_of 2) e2 k2)

-- ---- adding the leaf of group n to the leaf index

module _ (r x links heads : List ℕ) (b n : ℕ) (fits : 4 * n + 4 ≤ length links) (buckets : 4 * b ≤ length heads) (some-bucket : 0 < b) (few : n + 1 < 2 ^ 32) (bytes : Bytes heads) where
  abbrev join : Option (List ℕ) → Option ℕ
  join o = joined_by (claim_of r x links heads b n) (leaf_bucket b) o

  claims-leaf : FindsClaim (leaf_hit r x) (word links) (leaf_start heads b) n → FindsClaim (leaf_hit r x) (word (linked links heads n (join (leaf (text r x n))))) (leaf_start (headed heads (n + 1) (join (leaf (text r x n)))) b) (suc n)
  unfolding leaf_hit joined_by bucket_of unless_shared linked headed claim_of
  claims-leaf known = go (leaf (text r x n)) (λ t. refl)
    where
      entry : (o : Option (List ℕ)) → ((t : List ℕ) → leaf_hit r x t n ≡ key_is o t) → FindsClaim (leaf_hit r x) (word (linked links heads n (bucket_of (leaf_bucket b) o))) (leaf_start (headed heads (n + 1) (bucket_of (leaf_bucket b) o)) b) (suc n)
      entry o h = claims-entry (by-base b some-bucket) (leaf_hit r x) links heads n (record { fits = fits; buckets = buckets; few = few; bytes = bytes }) o h known

      go : (o : Option (List ℕ)) → ((t : List ℕ) → leaf_hit r x t n ≡ key_is o t) → FindsClaim (leaf_hit r x) (word (linked links heads n (join o))) (leaf_start (headed heads (n + 1) (join o)) b) (suc n)
      go none h = entry none h
      go (some l) h = by (claim_of r x links heads b n l) refl
        where
          by : (c : Claim) → claim_of r x links heads b n l ≡ c → FindsClaim (leaf_hit r x) (word (linked links heads n (unless_shared c (leaf_bucket b l)))) (leaf_start (headed heads (n + 1) (unless_shared c (leaf_bucket b l))) b) (suc n)
          by absent e = entry (some l) h
          by (claimed i) e = entry (some l) h
          by ambiguous e = claims-shared (leaf_hit r x) (word links) (leaf_start heads b) n l h e known

-- ---- all three indexes

-- the heads of the three indexes are bytes below 256
pub record Heads (s : Store) : Type 0 where
  pub groups : Bytes s.group_heads
  pub paths : Bytes s.path_heads
  pub leaves : Bytes s.leaf_heads

module _ (s : Store) (g : ℕ) (shaped : Shaped s) (few : s.header.allowed.groups ≤ 100000) (low : g < s.header.allowed.groups) where
  abbrev a : Allowances
  a = s.header.allowed

  pub index-indexed : Heads s → Indexed s g → Indexed (index_group s g) (suc g)
  unfolding index_group push_leaf push_path push_key linked headed
  index-indexed y i =
      let same = link-rows s.group_rows g (word s.group_heads (key_bucket (Layout.group_buckets a) (key s.group_rows g))) (omega (arith, shaped.group_rows)) in
      record {
        keys = latest-key s.group_rows s.group_heads (Layout.group_buckets a) g (omega (arith, shaped.group_rows)) (omega (arith, shaped.group_heads)) (omega arith) (omega arith) y.groups i.keys;
        paths = same-paths s.group_rows s.texts _ s.texts (suc g) (λ e _. same_text same s.texts e) _ _ (Layout.path_buckets a) (latest-paths s.group_rows s.texts s.path_links s.path_heads (Layout.path_buckets a) g (omega (arith, shaped.path_links)) (omega (arith, shaped.path_heads)) (omega arith) (omega arith) y.paths i.paths);
        leaves = same-leaves s.group_rows s.texts _ s.texts (suc g) (λ e _. same_text same s.texts e) _ _ (Layout.leaf_buckets a) (claims-leaf s.group_rows s.texts s.leaf_links s.leaf_heads (Layout.leaf_buckets a) g (omega (arith, shaped.leaf_links)) (omega (arith, shaped.leaf_heads)) (omega arith) (omega arith) y.leaves i.leaves);
      }
