-- Laws for `push_entry`, `push_key`, `push_path`, `push_leaf` and `index_group`: the memory after each.
use Rattle.std.specs.Prelude.{◌≡◌, ℕ, ◌+◌, ◌*◌, ◌<◌, ◌≤◌, List, ◌++◌, length}
use Rattle.std.proofs.Common.{sym, ap, subst, ◌∙◌, add-one}
use Rattle.std.proofs.Math.Option.{Option}
use native.Mathlib.Omega.{arith}
use Rattle.vrf_bitio.specs.Bits.{Bytes}
use Rattle.vrf_bitio.specs.Pasted.{pasted}
use Rattle.vrf_words.proofs.Laws.Words.{length_part, bytes-part}
use Rattle.vrf_model.specs.Book.{Allowances}
use Rattle.vrf_table.specs.Table.{at, len, text}
use Rattle.vrf_store.specs.Layout
use Rattle.vrf_store.specs.Store.{Store, Header, allowances_of, header_of, words, store_by, store_of}
use Rattle.vrf_store.specs.Inner.Valid.{Shaped}
use Rattle.vrf_store.specs.Inner.WellFormed.{Enough}
use Rattle.vrf_store.specs.Inner.Indexes.{Readable}
use Rattle.vrf_store.specs.Inner.Memory.{WrittenStore}
use Rattle.vrf_store.specs.Inner.Groups.{linked, headed, BucketBelow, push_key, push_path, push_leaf, Indexed, Relinked, Indexable, Pushable, MoreIndexed, BucketsOf}
use Rattle.vrf_table.specs.Inner.Answers.{entry}
use Rattle.vrf_store.proofs.Laws.Memory.Written.{unwritten, wrote-group_table, wrote-path_index, wrote-leaf_index}
use Rattle.vrf_store.proofs.Laws.Check.Valid.{need-shaped}
use Rattle.vrf_store.proofs.Laws.Groups.TextIndex.{length-linked, length-headed}
use Rattle.vrf_store.proofs.Laws.Groups.Joining.{index_group}
use Rattle.vrf_store.proofs.Laws.Groups.Index.{Heads, index-indexed}
use Rattle.vrf_store.proofs.Laws.Groups.Links.{index-relinked}
use Rattle.vrf_store.specs.declared.groups.Buckets.{Buckets}

-- ---- adding one entry

-- the links and the heads with one more entry, as they are in memory
abbrev chained : List ℕ → (at n k i p : ℕ) → Option ℕ → List ℕ
chained m at n k i p o = linked (words m at n) (words m (at + n) k) i o ++ headed (words m (at + n) k) p o

-- g is the allowance of GUID records and r the allowance of groups, as the code reads them
module _ (m m' : List ℕ) (g r e : ℕ) (o : Option ℕ) (guids : g ≡ (allowances_of m).guids) (groups : r ≡ (allowances_of m).groups) where
  shaped : Enough m → Shaped (store_of m)
  shaped = need-shaped (header_of m) m

  pub key-written : Pushable m 1 (Layout.group_buckets (allowances_of m)) e o → m' ≡ pasted m (4 * (33 + 10 * g)) (chained m (33 + 10 * g) (6 * r) (r + 1) (6 * e + 2) (e + 1) o) → WrittenStore m m' (push_key (store_of m) e o)
  unfolding push_key
  key-written h w = rw (w, guids, groups) (wrote-group_table (unwritten m) h.enough _ _
      (length-linked (store_of m).group_rows (store_of m).group_heads (6 * e + 2) (omega (arith, h.low, (shaped h.enough).group_rows)) o ∙ (shaped h.enough).group_rows)
      (length-headed (store_of m).group_heads (Layout.group_buckets (allowances_of m)) (e + 1) (omega (arith, (shaped h.enough).group_heads)) o h.below ∙ (shaped h.enough).group_heads))

  pub path-written : Pushable m 3 (Layout.path_buckets (allowances_of m)) e o → m' ≡ pasted m (4 * (34 + 10 * g + 7 * r)) (chained m (34 + 10 * g + 7 * r) (3 * r) (3 * r + 1) e (e + 1) o) → WrittenStore m m' (push_path (store_of m) e o)
  unfolding push_path
  path-written h w =
      let heads : 34 + 10 * (allowances_of m).guids + 7 * (allowances_of m).groups + 3 * (allowances_of m).groups ≡ Layout.path_heads_at (allowances_of m) = omega arith in
      rw (w, guids, groups, heads) (wrote-path_index (unwritten m) h.enough _ _
      (length-linked (store_of m).path_links (store_of m).path_heads e (omega (arith, h.low, (shaped h.enough).path_links)) o ∙ (shaped h.enough).path_links)
      (length-headed (store_of m).path_heads (Layout.path_buckets (allowances_of m)) (e + 1) (omega (arith, (shaped h.enough).path_heads)) o h.below ∙ (shaped h.enough).path_heads))

  pub leaf-written : Pushable m 1 (Layout.leaf_buckets (allowances_of m)) e o → m' ≡ pasted m (4 * (35 + 10 * g + 13 * r)) (chained m (35 + 10 * g + 13 * r) r (2 * r + 1) e (e + 1) o) → WrittenStore m m' (push_leaf (store_of m) e o)
  unfolding push_leaf
  leaf-written h w =
      let heads : 35 + 10 * (allowances_of m).guids + 13 * (allowances_of m).groups + (allowances_of m).groups ≡ Layout.leaf_heads_at (allowances_of m) = omega arith in
      rw (w, guids, groups, heads) (wrote-leaf_index (unwritten m) h.enough _ _
      (length-linked (store_of m).leaf_links (store_of m).leaf_heads e (omega (arith, h.low, (shaped h.enough).leaf_links)) o ∙ (shaped h.enough).leaf_links)
      (length-headed (store_of m).leaf_heads (Layout.leaf_buckets (allowances_of m)) (e + 1) (omega (arith, (shaped h.enough).leaf_heads)) o h.below ∙ (shaped h.enough).leaf_heads))

-- ---- adding all entries of a group

-- a text inside x has the length that its row gives
pub text-long : (r x : List ℕ) (e : ℕ) → at r e + len r e ≤ length x → length (text r x e) ≡ len r e
unfolding text
text-long r x e h = length_part x (at r e) (len r e) h

-- the row of group g is inside the rows, and its path inside the texts
module _ {m : List ℕ} {g : ℕ} (i : Indexable m g) where
  pub row_inside : 24 * g + 24 ≤ length (store_of m).group_rows
  row_inside = omega (arith, (need-shaped (header_of m) m i.enough).group_rows, i.low)

  pub path_inside : at (store_of m).group_rows g + len (store_of m).group_rows g ≤ length (store_of m).texts
  path_inside = omega (arith, (need-shaped (header_of m) m i.enough).texts, i.within g (omega arith))

  pub path-short : length (text (store_of m).group_rows (store_of m).texts g) ≤ 4096
  path-short = omega (arith, text-long (store_of m).group_rows (store_of m).texts g path_inside, i.short g (omega arith))

  -- so are the paths of the groups before it, and their leaves can be looked up
  pub readable-before : Readable m g
  readable-before = record {
    enough = i.enough;
    few = i.few;
    low = omega (arith, i.low);
    texts = λ e k. omega (arith, (need-shaped (header_of m) m i.enough).texts, i.within e (omega (arith, k)));
  }

-- two sequences of writes, one after the other
pub then : {m m' m'' : List ℕ} {s : Store} (f : Store → Store) → WrittenStore m m' s → WrittenStore m' m'' (f (store_of m')) → WrittenStore m m'' (f s)
then f w v = record { store = v.store ∙ ap f w.store; allowed = v.allowed ∙ w.allowed; counters = v.counters ∙ w.counters; long = v.long ∙ w.long }

pub after : {m m' m'' : List ℕ} {s t : Store} → WrittenStore m m' s → WrittenStore m' m'' t → WrittenStore m m'' t
after {t = t} w v = then (λ _. t) w v

-- a group that can be added to the indexes still can after writes
pub pushable : {m m' : List ℕ} {s : Store} {g : ℕ} {o o' : Option ℕ} (n : ℕ) (b : ℕ → ℕ) (e : ℕ) → Indexable m g → WrittenStore m m' s → e < n * (allowances_of m).groups → o ≡ o' → BucketBelow (b (allowances_of m).groups) o' → Pushable m' n (b (allowances_of m').groups) e o
pushable {m} {m'} {o = o} n b e i w low same below =
    let groups : (allowances_of m').groups ≡ (allowances_of m).groups = ap (λ (a : Allowances). a.groups) w.allowed in
    record {
      enough = omega (arith, ap Layout.need w.allowed, w.long, i.enough);
      few = rw groups i.few;
      low = rw groups low;
      below = rw (groups, same) below;
    }

module _ {m m₁ m₂ m₃ m₄ m₅ : List ℕ} {g : ℕ} {r : Buckets} (b : BucketsOf (store_of m) g r) where
  pub group-written : WrittenStore m m₁ (push_key (store_of m) g (entry r.key)) → WrittenStore m₁ m₂ (push_path (store_of m₁) (3 * g) (entry r.own))
      → WrittenStore m₂ m₃ (push_path (store_of m₂) (3 * g + 1) (entry r.default)) → WrittenStore m₃ m₄ (push_path (store_of m₃) (3 * g + 2) (entry r.core))
      → WrittenStore m₄ m₅ (push_leaf (store_of m₄) g (entry r.leaf)) → WrittenStore m m₅ (index_group (store_of m) g)
  unfolding index_group
  group-written w₁ w₂ w₃ w₄ w₅ =
      let all = then (λ z. push_leaf z g (entry r.leaf)) (then (λ z. push_path z (3 * g + 2) (entry r.core)) (then (λ z. push_path z (3 * g + 1) (entry r.default)) (then (λ z. push_path z (3 * g) (entry r.own)) w₁ w₂) w₃) w₄) w₅ in
      rw (b.key, b.own, b.default, b.core, b.leaf) at all

bytes-heads : (h : Header) (m : List ℕ) → Bytes m → Heads (store_by h m)
unfolding store_by words
bytes-heads h m b = record { groups = bytes-part m _ _ b; paths = bytes-part m _ _ b; leaves = bytes-part m _ _ b }

pub group-joined : {m m' : List ℕ} {g : ℕ} → Indexable m g → Bytes m → WrittenStore m m' (index_group (store_of m) g) → MoreIndexed m m' g (g + 1)
group-joined {m} {m'} {g} i b w =
    let shaped = need-shaped (header_of m) m i.enough in
    record {
      relinked = subst (λ (z : Store). Relinked (store_of m) z) (sym w.store) (index-relinked (store_of m) g shaped i.low);
      indexed = λ k. subst (λ (z : Store). Indexed z (g + 1)) (sym w.store) (subst (λ (n : ℕ). Indexed (index_group (store_of m) g) n) (sym (add-one g)) (index-indexed (store_of m) g shaped i.few i.low (bytes-heads (header_of m) m b) k));
      counters = w.counters;
      long = w.long;
    }
