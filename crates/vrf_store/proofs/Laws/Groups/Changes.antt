-- Laws about writing a group row: what else stays valid, and `push_group`.
use Rattle.std.specs.Prelude.{◌≡◌, ℕ, suc, ◌+◌, ◌*◌, ◌/◌, ◌%◌, ◌^◌, ◌<◌, ◌≤◌, ◌≢◌, List, [], ◌∷◌, ◌++◌, length, replicate}
use Rattle.std.proofs.Math.Path.{refl, sym, ap, ap₂}
use Rattle.std.proofs.Common.{subst, ◌∙◌, add-one, arith}
use borrow.Author.Tests.{ne_eqb}
use Rattle.vrf_bitio.specs.Pasted.{pasted}
use Rattle.vrf_words.specs.Words.{part}
use Rattle.vrf_words.specs.Inner.Words.{set_word}
use Rattle.vrf_model.specs.Book.{empty, Group, Content}
use Rattle.vrf_model.specs.Setting.{with_groups, new_group}
use Rattle.vrf_model.specs.Lawful.{Is32}
use Rattle.vrf_table.specs.Table.{key, at, len, info, text, key_hit}
use Rattle.vrf_table.proofs.Laws.Chain.{by_equal, last_below-none}
use Rattle.vrf_store.specs.UpTo.{up_to, sum_below}
use Rattle.vrf_store.specs.Layout
use Rattle.vrf_store.specs.Store.{Header, Store, allowances_of, header_of, store_of, guid_at, field_at, or_empty, slot_key, slot_by, group_by, content_of}
use Rattle.vrf_store.specs.Check.{text_sum}
use Rattle.vrf_store.specs.Inner.Valid.{ValidSlotKey, Valid}
use Rattle.vrf_store.specs.Inner.WellFormed.{Enough}
use Rattle.vrf_store.specs.Inner.Memory.{WrittenStore, push_row, TextPlaced}
use Rattle.vrf_store.specs.Inner.Stepped.{held, Stepped}
use Rattle.vrf_store.specs.Inner.Groups.{Indexed, Unindexed, Indexable, MoreIndexed, put_group, NewGroup}
use Rattle.vrf_store.proofs.Laws.Memory.UpTo.{up_to-ext, up_to-replicate, sum_below-ext}
use Rattle.vrf_store.proofs.Laws.Memory.Written.{groups_to, held_to, unwritten, wrote-groups, wrote-held, wrote-group_table}
use Rattle.vrf_store.proofs.Laws.Memory.Rows.{length-push_row, key-push_row, len-push_row, info-push_row, text-push_row, key-push_row-other, link-push_row-other, len-push_row-other, info-push_row-other}
use Rattle.vrf_store.proofs.Laws.Memory.Rows.{text-push_row-other, PutRow, put-text, put-distinct, same_keys, not_found}
use Rattle.vrf_store.proofs.Laws.Memory.Tables.{lent_to, Lent, lent, table_end, row_words}
use Rattle.vrf_store.proofs.Laws.Check.Valid.{need-shaped}
use Rattle.vrf_store.proofs.Laws.Check.Accepted.{slot_key-only}
use Rattle.vrf_store.proofs.Laws.Lookups.{index-found}
use Rattle.vrf_store.proofs.Laws.Groups.TextIndex.{same-paths, same-leaves}
use Rattle.vrf_store.proofs.Laws.Groups.Index.{valid-unindexed, valid-indexed, halves-valid}
use Rattle.vrf_store.proofs.Laws.Groups.Links.{relinked-header, relinked-literals, relinked-content, relinked-unindexed}
use Rattle.vrf_store.proofs.Laws.Groups.Memory.{text-long}

-- ---- slots that no field fills

module _ (s : Store) (g q : ℕ) (small : q < 65536) where
  -- no field is in this slot of group g
  pub slot-empty : ((j : ℕ) → j < s.header.fields → key s.field_rows j / 65536 ≡ g → key s.field_rows j % 65536 ≢ q) → slot_by s s.header.fields g q ≡ empty
  unfolding slot_by or_empty key_hit
  slot-empty h = ap (or_empty (field_at s)) (last_below-none _ s.header.fields (λ j k. ne_eqb (key s.field_rows j) (slot_key g q) (λ e. let p = slot_key-only (key s.field_rows j) g q small e in h j k (sym p.0) (sym p.1))))

-- a group without fields has only empty slots
pub slots-none : (s : Store) (g n : ℕ) → n ≤ 65536 → ((j : ℕ) → j < s.header.fields → key s.field_rows j / 65536 ≢ g) → up_to (slot_by s s.header.fields g) n ≡ replicate n empty
slots-none s g n few h = up_to-replicate (slot_by s s.header.fields g) n empty (λ q b. slot-empty s g q (omega (arith, b, few)) (λ j c e _. h j c e))

-- ---- writing a row

abbrev pub with_group_row : Store → (e k a l i n h : ℕ) → Store
with_group_row s e k a l i n h = held_to (groups_to (put_group s e k a l i) n) h

-- the memory after the row is written into the lent table
pub row_written : {m t : List ℕ} {g cap : ℕ} (e k a l i : ℕ) → g ≡ (allowances_of m).guids → cap ≡ (allowances_of m).groups → Enough m → e < (allowances_of m).groups
    → Lent m (4 * (33 + 10 * g)) (table_end (4 * (33 + 10 * g)) cap (cap + 1)) (λ x. push_row x e k 0 a l i) t
    → WrittenStore m (lent_to m (4 * (33 + 10 * g)) (table_end (4 * (33 + 10 * g)) cap (cap + 1)) t) (put_group (store_of m) e k a l i)
row_written {m} {t} {g} {cap} e k a l i eg ec enough low row =
    let shaped = need-shaped (header_of m) m enough in
    let from : ℕ = 4 * (33 + 10 * g) in
    let table : lent_to m from (table_end from cap (cap + 1)) t ≡ pasted m from (push_row (part m from (24 * cap + 4 * (cap + 1))) e k 0 a l i) = lent (24 * cap + 4 * (cap + 1)) row (omega arith) (omega (arith, enough, ec, eg)) in
    let as-words = row_words m (Layout.group_rows_at (allowances_of m)) (allowances_of m).groups (Layout.group_buckets (allowances_of m)) (omega (arith, enough)) e low k 0 a l i in
    let long = length-push_row (store_of m).group_rows e k 0 a l i (omega (arith, low, shaped.group_rows)) in
    rw (table, eg, ec, as-words) (wrote-group_table (unwritten m) enough (push_row (store_of m).group_rows e k 0 a l i) (store_of m).group_heads (long ∙ shaped.group_rows) shaped.group_heads)

-- what makes the new row e good: all other rows below n were there before, and each field is still in a slot that its group has
pub record ValidRow (s : Store) (e k a l i n h : ℕ) : Type 0 where
  pub row : e < n
  pub few : n ≤ s.header.allowed.groups
  pub others : (j : ℕ) → j < n → j ≢ e → j < s.header.groups
  pub kept : s.header.groups ≤ n
  pub key_fits : Is32 k
  pub new : (j : ℕ) → j < n → j ≢ e → key s.group_rows j ≢ k
  pub placed : TextPlaced s.header.used s.texts a l
  pub slots : i ≤ 65536
  pub filled : (j : ℕ) → j < s.header.fields → key s.field_rows j / 65536 ≡ e → key s.field_rows j % 65536 < i
  pub space : h ≤ s.header.allowed.text
  pub total : h + sum_below (len s.group_rows) s.header.groups ≡ s.header.held + sum_below (len (push_row s.group_rows e k 0 a l i)) n

module _ (s : Store) (e k a l i n h : ℕ) (u : Unindexed s) (w : ValidRow s e k a l i n h) where
  abbrev r : List ℕ
  r = s.group_rows

  abbrev r' : List ℕ
  r' = push_row r e k 0 a l i

  abbrev s' : Store
  s' = with_group_row s e k a l i n h

  fits : 24 * e + 24 ≤ length r
  fits = omega (arith, w.row, w.few, u.shaped.group_rows)

  at-fits : a < 2 ^ 32
  at-fits = omega (arith, w.placed.within, u.header.used, u.header.tops.text)

  len-fits : l < 2 ^ 32
  len-fits = omega (arith, w.placed.within, u.header.used, u.header.tops.text)

  row-key : key r' e ≡ k
  row-key = key-push_row r e k 0 a l i fits (omega (arith, w.key_fits))

  row-info : info r' e ≡ i
  row-info = info-push_row r e k 0 a l i fits (omega (arith, w.slots))

  row-text : text r' s.texts e ≡ part s.texts a l
  row-text = text-push_row r e k 0 a l i fits s.texts at-fits len-fits

  put : PutRow s.header.used s.texts r n e k a l
  put = record {
    fits = fits;
    key_fits = omega (arith, w.key_fits);
    at-fits = at-fits;
    len-fits = len-fits;
    placed = w.placed;
    texts = λ j m q. u.texts j (w.others j m q);
    distinct = λ x y hx hy qx qy. u.distinct x y (w.others x hx qx) (w.others y hy qy);
    new = w.new;
  }

  put-numbers : (j : ℕ) → j < n → Is32 (key r' j) × (info r' j ≤ 65536)
  put-numbers j m = by_equal j e
      (λ q. rw (q, row-key, row-info) (w.key_fits, w.slots))
      (λ q. rw (key-push_row-other r e k 0 a l i fits j q, info-push_row-other r e k 0 a l i fits j q) (u.groups j (w.others j m q)))

  put-field : (j : ℕ) → j < s.header.fields → ValidSlotKey s' (key s.field_rows j)
  put-field j m =
      let good = (u.fields j m).0 in
      record {
        place = omega (arith, good.place, w.kept);
        slot = by_equal (key s.field_rows j / 65536) e
            (λ q. rw (q, row-info) (w.filled j m q))
            (λ q. rw (info-push_row-other r e k 0 a l i fits (key s.field_rows j / 65536) q) good.slot);
      }

  pub put-unindexed : Unindexed s'
  unfolding text_sum
  put-unindexed = record {
    shaped = record {
      guid_rows = u.shaped.guid_rows;
      guid_heads = u.shaped.guid_heads;
      group_rows = length-push_row r e k 0 a l i fits ∙ u.shaped.group_rows;
      group_heads = u.shaped.group_heads;
      path_links = u.shaped.path_links;
      path_heads = u.shaped.path_heads;
      leaf_links = u.shaped.leaf_links;
      leaf_heads = u.shaped.leaf_heads;
      field_rows = u.shaped.field_rows;
      field_heads = u.shaped.field_heads;
      texts = u.shaped.texts;
    };
    header = record { tops = u.header.tops; guids = u.header.guids; groups = w.few; fields = u.header.fields; held = w.space; used = u.header.used; half = u.header.half };
    guid_table = u.guid_table;
    guids = u.guids;
    texts = put-text put 0 i;
    distinct = put-distinct put 0 i;
    groups = put-numbers;
    field_table = u.field_table;
    fields = λ j m. (put-field j m, (u.fields j m).1);
    total = omega (arith, w.total, u.total);
  }

  -- the other groups are unchanged
  pub put_other : (j : ℕ) → j ≢ e → group_by s s.header.fields j ≡ group_by s' s.header.fields j
  unfolding group_by slot_by field_at
  put_other j q = sym (rw (text-push_row-other r e k 0 a l i fits j q s.texts, key-push_row-other r e k 0 a l i fits j q, info-push_row-other r e k 0 a l i fits j q))

  pub put-own : group_by s' s.header.fields e ≡ record { path = part s.texts a l; index = k; slots = up_to (slot_by s s.header.fields e) i }
  unfolding group_by slot_by field_at
  put-own = rw (row-text, row-key, row-info)

  pub put-content : content_of s' ≡ with_groups (content_of s) (up_to (group_by s' s.header.fields) n)
  unfolding content_of with_groups guid_at
  put-content = refl

-- ---- writing row e keeps the indexes of the groups before it

module _ (s : Store) (e k a l i h : ℕ) (fits : 24 * e + 24 ≤ length s.group_rows) where
  abbrev t : Store
  t = with_group_row s e k a l i (suc e) h

  before : (j : ℕ) → j < e → j ≢ e
  before j m q = omega (arith, m, q)

  put-indexed : Indexed s e → Indexed t e
  put-indexed x =
      let r = s.group_rows in
      let texts : (j : ℕ) → j < e → text t.group_rows s.texts j ≡ text r s.texts j = λ j m. text-push_row-other r e k 0 a l i fits j (before j m) s.texts in
      record {
        keys = same_keys r t.group_rows s.group_heads (Layout.group_buckets s.header.allowed) e (λ j m. key-push_row-other r e k 0 a l i fits j (before j m)) (λ j m. link-push_row-other r e k 0 a l i fits j (before j m)) x.keys;
        paths = same-paths r s.texts t.group_rows s.texts e texts s.path_links s.path_heads (Layout.path_buckets s.header.allowed) x.paths;
        leaves = same-leaves r s.texts t.group_rows s.texts e texts s.leaf_links s.leaf_heads (Layout.leaf_buckets s.header.allowed) x.leaves;
      }

-- ---- writing a row, then indexing its group

-- if everything but the indexes is valid, each group can be added to the indexes
pub indexable : {m m' : List ℕ} {s : Store} (g : ℕ) → Enough m → WrittenStore m m' s → Unindexed s → g < s.header.groups → Indexable m' g
indexable {m} {m'} {s} g enough w u low =
    let v : Unindexed (store_of m') = subst (λ (z : Store). Unindexed z) (sym w.store) u in
    let below : g < (header_of m').groups = subst (λ (z : Store). g < z.header.groups) (sym w.store) low in
    let inside : (e : ℕ) → e ≤ g → at (store_of m').group_rows e + len (store_of m').group_rows e ≤ (header_of m').used = λ e h. (v.texts e (omega (arith, h, below))).within in
    record {
      enough = omega (arith, ap Layout.need w.allowed, w.long, enough);
      few = v.header.tops.groups;
      low = omega (arith, below, v.header.groups);
      within = λ e h. omega (arith, inside e h, v.header.used);
      short = λ e h. omega (arith, text-long (store_of m').group_rows (store_of m').texts e (omega (arith, inside e h, v.header.used, v.shaped.texts)), (v.texts e (omega (arith, h, below))).is_text.short);
    }

-- when all groups are in the indexes, the memory is well-formed
pub joined-stepped : {m m₁ m₂ : List ℕ} {s : Store} {n n' : ℕ} {c : Content} → Enough m → WrittenStore m m₁ s → Unindexed s → Indexed s n → content_of s ≡ c → s.literals ≡ (store_of m).literals → MoreIndexed m₁ m₂ n n' → n' ≡ s.header.groups → Stepped m m₂ c
joined-stepped {m} {m₁} {m₂} {s} {n} {n'} enough w u i e l j q =
    let v : Unindexed (store_of m₁) = subst (λ (z : Store). Unindexed z) (sym w.store) u in
    let k : Indexed (store_of m₁) n = subst (λ (z : Store). Indexed z n) (sym w.store) i in
    let header : header_of m₂ ≡ s.header = relinked-header j.relinked ∙ ap (λ (z : Store). z.header) w.store in
    let all : n' ≡ (header_of m₂).groups = q ∙ sym (ap (λ (x : Header). x.groups) header) in
    let allowed : allowances_of m₂ ≡ allowances_of m = ap (λ (x : Header). x.allowed) (relinked-header j.relinked) ∙ w.allowed in
    record {
      good = record {
        enough = omega (arith, ap Layout.need allowed, j.long, w.long, enough);
        valid = halves-valid (relinked-unindexed j.relinked v) (subst (λ (x : ℕ). Indexed (store_of m₂) x) all (j.indexed k));
      };
      content = relinked-content j.relinked ∙ ap content_of w.store ∙ e;
      counters = j.counters ∙ w.counters;
      long = j.long ∙ w.long;
      literals = relinked-literals j.relinked ∙ ap (λ (z : Store). z.literals) w.store ∙ l;
    }

-- ---- adding a group

module _ (m : List ℕ) (k a l i : ℕ) (x : NewGroup m k a l i) (key_fits : Is32 k) where
  abbrev o : Store
  o = store_of m

  abbrev last : ℕ
  last = (header_of m).groups

  abbrev v : Valid o
  v = x.good.valid

  abbrev more : Store
  more = with_group_row o last k a l i (suc last) ((header_of m).held + l)

  row-space : 24 * last + 24 ≤ length o.group_rows
  row-space = omega (arith, x.few, v.shaped.group_rows)

  no_field : (j : ℕ) → j < (header_of m).fields → key o.field_rows j / 65536 ≢ last
  no_field j h q = omega (arith, (v.fields j h).0.place, q)

  more-total : sum_below (len (push_row o.group_rows last k 0 a l i)) (suc last) ≡ sum_below (len o.group_rows) last + l
  unfolding sum_below
  more-total = ap₂ ◌+◌
      (sum_below-ext (len (push_row o.group_rows last k 0 a l i)) (len o.group_rows) last (λ j h. len-push_row-other o.group_rows last k 0 a l i row-space j (λ q. omega (arith, h, q))))
      (len-push_row o.group_rows last k 0 a l i row-space (omega (arith, x.placed.within, v.header.used, v.header.tops.text)))

  more-row : ValidRow o last k a l i (suc last) ((header_of m).held + l)
  more-row = record {
    row = omega arith;
    few = omega (arith, x.few);
    others = λ j h q. omega (arith, h, q);
    kept = omega arith;
    key_fits = key_fits;
    new = λ j h q. not_found o.header.used o.texts o.group_rows o.group_heads (Layout.group_buckets (allowances_of m)) last k v.group_table (sym (index-found v k) ∙ x.new) j (omega (arith, h, q));
    placed = x.placed;
    slots = x.handles;
    filled = λ j h q. absurd (no_field j h q);
    space = x.space;
    total = omega (arith, more-total);
  }

  more-unindexed : Unindexed more
  more-unindexed = put-unindexed o last k a l i (suc last) ((header_of m).held + l) (valid-unindexed v) more-row

  more-content : content_of more ≡ with_groups (held m) ((held m).groups ++ (new_group (part o.texts a l) k i ∷ []))
  unfolding up_to new_group content_of
  more-content =
      let w = more-row in
      let u = valid-unindexed v in
      let h : ℕ = (header_of m).held + l in
      put-content o last k a l i (suc last) h u w ∙ ap (with_groups (held m)) (ap₂ (λ (gs : List Group) (g : Group). gs ++ (g ∷ []))
      (sym (up_to-ext (group_by o (header_of m).fields) (group_by more (header_of m).fields) last (λ j b. put_other o last k a l i (suc last) h u w j (λ q. omega (arith, b, q)))))
      (put-own o last k a l i (suc last) h u w ∙ rw (slots-none o last i x.handles no_field)))

  -- the writes, and then the indexes
  pub push-written : {n t : ℕ} {m₁ m₂ m₃ : List ℕ} → n ≡ last → t ≡ (header_of m).held → WrittenStore m m₁ (put_group o n k a l i) → m₂ ≡ set_word m₁ 6 (n + 1) → m₃ ≡ set_word m₂ 8 (t + l) → WrittenStore m m₃ more
  push-written {n} {t} {m₁} {m₂} {m₃} en et w e₂ e₃ =
      let space : 128 ≤ length m = omega (arith, x.good.enough) in
      let e : m₃ ≡ set_word (set_word m₁ 6 (suc last)) 8 ((header_of m).held + l) = e₃ ∙ rw (e₂, add-one n, en, et) in
      rw e (wrote-held (wrote-groups (rw en at w) (suc last) (omega (arith, x.few, v.header.tops.groups)) space) ((header_of m).held + l) (omega (arith, x.space, v.header.tops.text)) space)

  pub push-indexable : {n : ℕ} {m₃ : List ℕ} → n ≡ last → WrittenStore m m₃ more → Indexable m₃ n
  push-indexable {n} {m₃} en w = rw en (indexable last x.good.enough w more-unindexed (omega arith))

  pub push-stepped : {n : ℕ} {m₃ m₄ : List ℕ} → n ≡ last → WrittenStore m m₃ more → MoreIndexed m₃ m₄ n (n + 1) → Stepped m m₄ (with_groups (held m) ((held m).groups ++ (new_group (part o.texts a l) k i ∷ [])))
  push-stepped {n} {m₃} {m₄} en w j =
      joined-stepped x.good.enough w more-unindexed (put-indexed o last k a l i ((header_of m).held + l) row-space (valid-indexed v)) more-content refl (rw en at j) (add-one last)
