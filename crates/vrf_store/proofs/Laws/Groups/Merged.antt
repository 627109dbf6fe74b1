-- Laws for `grow_group` and for merging: a group keeps its fields, and can get more slots.
use Rattle.std.specs.Prelude.{◌≡◌, ℕ, ◌+◌, ◌-◌, ◌*◌, ◌/◌, ◌<◌, ◌≤◌, ◌≢◌, List, length, slice_set, refl}
use Rattle.std.proofs.Math.Path.{sym, ap}
use Rattle.std.proofs.Common.{◌∙◌, arith}
use Rattle.vrf_words.specs.Words.{word}
use Rattle.vrf_words.specs.Inner.Words.{set_word}
use Rattle.vrf_words.proofs.Laws.Words.{length-set_word, word-set_word-same, word-set_word-other, word-part}
use Rattle.vrf_model.specs.Book.{empty, Group}
use Rattle.vrf_model.specs.Setting.{with_groups, grown}
use Rattle.vrf_table.specs.Table.{key, link, at, len, info, text}
use Rattle.vrf_table.proofs.Laws.Chain.{by_equal}
use Rattle.vrf_store.specs.UpTo.{up_to}
use Rattle.vrf_store.specs.Layout
use Rattle.vrf_store.specs.Store.{Store, allowances_of, header_of, words, store_of, guid_at, field_at, slot_by, group_by, content_of}
use Rattle.vrf_store.specs.Check.{text_sum}
use Rattle.vrf_store.specs.Inner.Valid.{ValidSlotKey, Valid}
use Rattle.vrf_store.specs.Inner.WellFormed.{WellFormed}
use Rattle.vrf_store.specs.Inner.Memory.{with_group_table}
use Rattle.vrf_store.specs.Inner.Stepped.{held, Stepped}
use Rattle.vrf_store.specs.Inner.Fields.{with_group}
use Rattle.vrf_store.specs.Inner.Groups.{grown_group}
use Rattle.vrf_store.proofs.Laws.Memory.UpTo.{length-up_to, up_to-set, up_to-rest, sum_below-ext}
use Rattle.vrf_store.proofs.Laws.Memory.Written.{unwritten, stepped, wrote-group_table}
use Rattle.vrf_store.proofs.Laws.Memory.Rows.{good-text, same_keys}
use Rattle.vrf_store.proofs.Laws.Memory.Entries.{word-written}
use Rattle.vrf_store.proofs.Laws.Lookups.{group-altered}
use Rattle.vrf_store.proofs.Laws.Groups.TextIndex.{same-paths, same-leaves}
use Rattle.vrf_store.proofs.Laws.Groups.Changes.{slot-empty}

-- ---- changing one group

module _ (s : Store) (e : ℕ) (low : e < s.header.groups) (by : ℕ → Group) (f : Group → Group) where
  pub one-group : ((j : ℕ) → j ≢ e → group_by s s.header.fields j ≡ by j) → by e ≡ f (group_by s s.header.fields e) → with_groups (content_of s) (up_to by s.header.groups) ≡ with_group (content_of s) e f
  unfolding content_of
  one-group others own =
      let changed = up_to-set (group_by s s.header.fields) by s.header.groups e low (λ j h q. others j q) in
      ap (with_groups (content_of s)) (changed ∙ ap (slice_set (up_to (group_by s s.header.fields) s.header.groups) e) own ∙ sym (group-altered s e f low))

pub same-group : (s : Store) (e : ℕ) → e < s.header.groups → (f g : Group → Group) → f (group_by s s.header.fields e) ≡ g (group_by s s.header.fields e) → with_group (content_of s) e f ≡ with_group (content_of s) e g
same-group s e low f g q = ap (with_groups (content_of s)) (group-altered s e f low ∙ ap (slice_set (content_of s).groups e) q ∙ sym (group-altered s e g low))

-- past its slots a group has no fields, so new slots are empty
module _ (s : Store) (fields : (j : ℕ) → j < s.header.fields → ValidSlotKey s (key s.field_rows j)) (e i n : ℕ) where
  pub grown-slots : n ≡ info s.group_rows e + (i - info s.group_rows e) → n ≤ 65536 → up_to (slot_by s s.header.fields e) n ≡ grown i (up_to (slot_by s s.header.fields e) (info s.group_rows e))
  unfolding grown
  grown-slots q few =
      let by = slot_by s s.header.fields e in
      let had = info s.group_rows e in
      let past : (j : ℕ) → j < i - had → by (had + j) ≡ empty = λ j h. slot-empty s e (had + j) (omega (arith, h, q, few)) (λ x b p r. omega (arith, (fields x b).slot, ap (info s.group_rows) p, r)) in
      ap (up_to by) q ∙ up_to-rest by empty had (i - had) past ∙ rw (length-up_to by had)

-- ---- growing a group

module _ (s : Store) (v : Valid s) (e i : ℕ) (low : e < s.header.groups) (more : info s.group_rows e ≤ i) (few : i ≤ 65536) where
  abbrev r : List ℕ
  r = s.group_rows

  abbrev r' : List ℕ
  r' = set_word r (6 * e + 5) i

  abbrev s' : Store
  s' = with_group_table s r' s.group_heads

  fits : 24 * e + 24 ≤ length r
  fits = omega (arith, low, v.header.groups, v.shaped.group_rows)

  other : (j : ℕ) → j ≢ 6 * e + 5 → word r' j ≡ word r j
  other j ne = word-set_word-other r (6 * e + 5) i j (omega (arith, fits)) ne

  same_key : (j : ℕ) → key r' j ≡ key r j
  unfolding key
  same_key j = rw (other (6 * j) (λ q. omega (arith, q)), other (6 * j + 1) (λ q. omega (arith, q)))

  same-link : (j : ℕ) → link r' j ≡ link r j
  unfolding link
  same-link j = other (6 * j + 2) (λ q. omega (arith, q))

  same_at : (j : ℕ) → at r' j ≡ at r j
  unfolding at
  same_at j = other (6 * j + 3) (λ q. omega (arith, q))

  same_len : (j : ℕ) → len r' j ≡ len r j
  unfolding len
  same_len j = other (6 * j + 4) (λ q. omega (arith, q))

  same_text : (j : ℕ) → text r' s.texts j ≡ text r s.texts j
  unfolding text
  same_text j = rw (same_at j, same_len j)

  same-info : (j : ℕ) → j ≢ e → info r' j ≡ info r j
  unfolding info
  same-info j ne = other (6 * j + 5) (λ q. ne (omega (arith, q)))

  own-info : info r' e ≡ i
  unfolding info
  own-info = word-set_word-same r (6 * e + 5) i (omega (arith, fits)) (omega (arith, few))

  grow-field : (j : ℕ) → j < s.header.fields → ValidSlotKey s' (key s.field_rows j)
  grow-field j h =
      let good = (v.fields j h).0 in
      record {
        place = good.place;
        slot = by_equal (key s.field_rows j / 65536) e
            (λ q. rw (q, own-info) (omega (arith, good.slot, ap (info r) q, more)))
            (λ q. rw (same-info (key s.field_rows j / 65536) q) good.slot);
      }

  grow-valid : Valid s'
  unfolding text_sum
  grow-valid = record {
    shaped = record {
      guid_rows = v.shaped.guid_rows;
      guid_heads = v.shaped.guid_heads;
      group_rows = length-set_word r (6 * e + 5) i (omega (arith, fits)) ∙ v.shaped.group_rows;
      group_heads = v.shaped.group_heads;
      path_links = v.shaped.path_links;
      path_heads = v.shaped.path_heads;
      leaf_links = v.shaped.leaf_links;
      leaf_heads = v.shaped.leaf_heads;
      field_rows = v.shaped.field_rows;
      field_heads = v.shaped.field_heads;
      texts = v.shaped.texts;
    };
    header = v.header;
    guid_table = v.guid_table;
    guids = v.guids;
    group_table = record {
      texts = λ j h. good-text s.header.used s.texts r r' j j (sym (same_at j)) (sym (same_len j)) (v.group_table.texts j h);
      distinct = λ x y hx hy q. v.group_table.distinct x y hx hy (sym (same_key x) ∙ q ∙ same_key y);
      latest = same_keys r r' s.group_heads (Layout.group_buckets s.header.allowed) s.header.groups (λ j _. same_key j) (λ j _. same-link j) v.group_table.latest;
    };
    groups = λ j h. by_equal j e
        (λ q. rw (same_key j, q, own-info) (rw q at (v.groups j h).0, few))
        (λ q. rw (same_key j, same-info j q) (v.groups j h));
    paths = same-paths r s.texts r' s.texts s.header.groups (λ j _. same_text j) s.path_links s.path_heads (Layout.path_buckets s.header.allowed) v.paths;
    leaves = same-leaves r s.texts r' s.texts s.header.groups (λ j _. same_text j) s.leaf_links s.leaf_heads (Layout.leaf_buckets s.header.allowed) v.leaves;
    field_table = v.field_table;
    fields = λ j h. (grow-field j h, (v.fields j h).1);
    total = rw (sum_below-ext (len r') (len r) s.header.groups (λ j h. same_len j)) v.total;
  }

  grow-content : content_of s' ≡ with_group (content_of s) e (grown_group i)
  unfolding content_of with_groups guid_at group_by slot_by field_at
  grow-content = one-group s e low (group_by s' s.header.fields) (grown_group i)
      (λ j q. sym (rw (same_text j, same_key j, same-info j q)))
      (rw (same_text e, same_key e, own-info, grown-slots s (λ j h. (v.fields j h).0) e i i (omega (arith, more)) few))

-- growing to no more slots than it has changes nothing
grow-none : (s : Store) (v : Valid s) (e i : ℕ) → e < s.header.groups → i ≤ info s.group_rows e → content_of s ≡ with_group (content_of s) e (grown_group i)
unfolding content_of with_groups group_by
grow-none s v e i low few = one-group s e low (group_by s s.header.fields) (grown_group i) (λ j q. refl)
    (let same = grown-slots s (λ j h. (v.fields j h).0) e i (info s.group_rows e) (omega (arith, few)) (v.groups e low).1 in ap (λ l. record { path = text s.group_rows s.texts e; index = key s.group_rows e; slots = l }) same)

-- ---- growing a group in memory

module _ {m : List ℕ} (good : WellFormed m) (e i : ℕ) (low : e < (header_of m).groups) (few : i ≤ 65536) {g : ℕ} (guids : g ≡ (allowances_of m).guids) where
  abbrev o : Store
  o = store_of m

  abbrev w : Valid o
  w = good.valid

  abbrev first : ℕ
  first = Layout.group_rows_at (allowances_of m)

  -- the slot count of group e is a word of its row
  pub info-word : word m (33 + 10 * g + (6 * e + 5)) ≡ info o.group_rows e
  unfolding info words
  info-word = rw guids (sym (word-part m first (4 * (6 * (allowances_of m).groups)) (6 * e + 5) (omega (arith, low, w.header.groups))))

  pub grow-stepped : info o.group_rows e ≤ i → {m' : List ℕ} → m' ≡ set_word m (33 + 10 * g + (6 * e + 5)) i → Stepped m m' (with_group (held m) e (grown_group i))
  grow-stepped more {m'} q =
      let enough = good.enough in
      let space : 24 * e + 24 ≤ length o.group_rows = omega (arith, low, w.header.groups, w.shaped.group_rows) in
      let as-words = word-written m first (6 * (allowances_of m).groups) ((allowances_of m).groups + 1) (omega (arith, enough)) (6 * e + 5) (omega (arith, low, w.header.groups)) i in
      let wrote = wrote-group_table (unwritten m) enough (set_word o.group_rows (6 * e + 5) i) o.group_heads (length-set_word o.group_rows (6 * e + 5) i (omega (arith, space)) ∙ w.shaped.group_rows) w.shaped.group_heads in
      rw (q, guids, as-words) (stepped enough wrote (grow-valid o w e i low more few) (grow-content o w e i low more few) refl)

  pub grow-skipped : i ≤ info o.group_rows e → Stepped m m (with_group (held m) e (grown_group i))
  grow-skipped less = stepped good.enough (unwritten m) w (grow-none o w e i low less) refl
