-- Laws for `clear_heads` and `rebuild_group_indexes`: the heads are cleared, and then the groups are added one by one.
use Rattle.std.specs.Prelude.{◌≡◌, ℕ, ◌+◌, ◌*◌, ◌<◌, List, ◌++◌, length, replicate, refl}
use Rattle.std.proofs.Common.{sym, ap, subst, ◌∙◌, arith}
use Rattle.std.proofs.lemmas.List.{length-replicate}
use Rattle.vrf_bitio.specs.Pasted.{pasted}
use Rattle.vrf_model.specs.Book.{Allowances}
use Rattle.vrf_store.specs.Layout
use Rattle.vrf_store.specs.Store.{Header, Store, allowances_of, header_of, store_of}
use Rattle.vrf_store.specs.Inner.Valid.{Shaped}
use Rattle.vrf_store.specs.Inner.WellFormed.{Enough}
use Rattle.vrf_store.specs.Inner.Memory.{WrittenStore}
use Rattle.vrf_store.specs.Inner.Stepped.{held, Stepped}
use Rattle.vrf_store.specs.Inner.Groups.{Unindexed, Relinked, Indexable, MoreIndexed}
use Rattle.vrf_store.proofs.Laws.Memory.Written.{unwritten, wrote-group_table, wrote-path_index, wrote-leaf_index}
use Rattle.vrf_store.proofs.Laws.Memory.Entries.{heads-written}
use Rattle.vrf_store.proofs.Laws.Check.Valid.{need-shaped}
use Rattle.vrf_store.proofs.Laws.Groups.Index.{none-indexed}
use Rattle.vrf_store.proofs.Laws.Groups.Links.{same_rows, relinked-refl, relinked-trans, relinked-header, relinked-unindexed}
use Rattle.vrf_store.proofs.Laws.Groups.Changes.{indexable, joined-stepped}

-- ---- several changes of links and heads

pub joined-refl : (m : List ℕ) (n : ℕ) → MoreIndexed m m n n
joined-refl m n = record { relinked = relinked-refl (store_of m); indexed = λ i. i; counters = refl; long = refl }

pub joined-trans : {m m' m'' : List ℕ} {a b c : ℕ} → MoreIndexed m m' a b → MoreIndexed m' m'' b c → MoreIndexed m m'' a c
joined-trans p q = record {
  relinked = relinked-trans p.relinked q.relinked;
  indexed = λ i. q.indexed (p.indexed i);
  counters = q.counters ∙ p.counters;
  long = q.long ∙ p.long;
}

joined-header : {m m' : List ℕ} {a b : ℕ} → MoreIndexed m m' a b → header_of m' ≡ header_of m
joined-header j = relinked-header j.relinked

joined-enough : {m m' : List ℕ} {a b : ℕ} → MoreIndexed m m' a b → Enough m → Enough m'
joined-enough j h = omega (arith, ap (λ (x : Header). Layout.need x.allowed) (joined-header j), j.long, h)

-- ---- clearing heads

-- after a change of only links and heads, the indexes are correct for no groups
other-heads : {m m' : List ℕ} {s : Store} → WrittenStore m m' s → Relinked (store_of m) s → MoreIndexed m m' 0 0
other-heads {m} {m'} w p = record {
  relinked = subst (λ (z : Store). Relinked (store_of m) z) (sym w.store) p;
  indexed = λ _. none-indexed (store_of m');
  counters = w.counters;
  long = w.long;
}

-- n words of zeros
abbrev zeros : ℕ → List ℕ
zeros n = replicate (4 * n) 0

module _ (m : List ℕ) {g r : ℕ} (guids : g ≡ (allowances_of m).guids) (groups : r ≡ (allowances_of m).groups) (enough : Enough m) where
  abbrev s : Store
  s = store_of m

  shaped : Shaped s
  shaped = need-shaped (header_of m) m enough

  long : (n : ℕ) → length (zeros n) ≡ 4 * n
  long n = length-replicate (4 * n) 0

  clear-keys : {m' : List ℕ} → m' ≡ pasted m (4 * (33 + 10 * g + 6 * r)) (zeros (r + 1)) → MoreIndexed m m' 0 0
  clear-keys {m'} q =
      let w = wrote-group_table (unwritten m) enough s.group_rows (zeros (Layout.group_buckets (allowances_of m))) shaped.group_rows (long (Layout.group_buckets (allowances_of m))) in
      let e : m' ≡ pasted m (4 * Layout.group_rows_at (allowances_of m)) (s.group_rows ++ (zeros (Layout.group_buckets (allowances_of m)))) = q ∙ rw (guids, groups, heads-written m (Layout.group_rows_at (allowances_of m)) (6 * (allowances_of m).groups) (Layout.group_buckets (allowances_of m)) (omega (arith, enough)) (zeros (Layout.group_buckets (allowances_of m)))) in
      rw e (other-heads w (record { rest = refl; rows = same_rows s.group_rows; group_heads = long (Layout.group_buckets (allowances_of m)) ∙ sym shaped.group_heads; path_links = refl; path_heads = refl; leaf_links = refl; leaf_heads = refl }))

  clear-paths : {m' : List ℕ} → m' ≡ pasted m (4 * (34 + 10 * g + 10 * r)) (zeros (3 * r + 1)) → MoreIndexed m m' 0 0
  clear-paths {m'} q =
      let w = wrote-path_index (unwritten m) enough s.path_links (zeros (Layout.path_buckets (allowances_of m))) shaped.path_links (long (Layout.path_buckets (allowances_of m))) in
      let at : 34 + 10 * (allowances_of m).guids + 10 * (allowances_of m).groups ≡ Layout.path_links_at (allowances_of m) + 3 * (allowances_of m).groups = omega arith in
      let e : m' ≡ pasted m (4 * Layout.path_links_at (allowances_of m)) (s.path_links ++ (zeros (Layout.path_buckets (allowances_of m)))) = q ∙ rw (guids, groups, at, heads-written m (Layout.path_links_at (allowances_of m)) (3 * (allowances_of m).groups) (Layout.path_buckets (allowances_of m)) (omega (arith, enough)) (zeros (Layout.path_buckets (allowances_of m)))) in
      rw e (other-heads w (record { rest = refl; rows = same_rows s.group_rows; group_heads = refl; path_links = refl; path_heads = long (Layout.path_buckets (allowances_of m)) ∙ sym shaped.path_heads; leaf_links = refl; leaf_heads = refl }))

  clear-leaves : {m' : List ℕ} → m' ≡ pasted m (4 * (35 + 10 * g + 14 * r)) (zeros (2 * r + 1)) → MoreIndexed m m' 0 0
  clear-leaves {m'} q =
      let w = wrote-leaf_index (unwritten m) enough s.leaf_links (zeros (Layout.leaf_buckets (allowances_of m))) shaped.leaf_links (long (Layout.leaf_buckets (allowances_of m))) in
      let at : 35 + 10 * (allowances_of m).guids + 14 * (allowances_of m).groups ≡ Layout.leaf_links_at (allowances_of m) + (allowances_of m).groups = omega arith in
      let e : m' ≡ pasted m (4 * Layout.leaf_links_at (allowances_of m)) (s.leaf_links ++ (zeros (Layout.leaf_buckets (allowances_of m)))) = q ∙ rw (guids, groups, at, heads-written m (Layout.leaf_links_at (allowances_of m)) (allowances_of m).groups (Layout.leaf_buckets (allowances_of m)) (omega (arith, enough)) (zeros (Layout.leaf_buckets (allowances_of m)))) in
      rw e (other-heads w (record { rest = refl; rows = same_rows s.group_rows; group_heads = refl; path_links = refl; path_heads = refl; leaf_links = refl; leaf_heads = long (Layout.leaf_buckets (allowances_of m)) ∙ sym shaped.leaf_heads }))

pub clear-all : (m : List ℕ) {m₁ m₂ m₃ : List ℕ} {g r : ℕ} → g ≡ (allowances_of m).guids → r ≡ (allowances_of m).groups → Enough m
    → m₁ ≡ pasted m (4 * (33 + 10 * g + 6 * r)) (zeros (r + 1)) → m₂ ≡ pasted m₁ (4 * (34 + 10 * g + 10 * r)) (zeros (3 * r + 1)) → m₃ ≡ pasted m₂ (4 * (35 + 10 * g + 14 * r)) (zeros (2 * r + 1)) → MoreIndexed m m₃ 0 0
clear-all m {m₁} {m₂} guids groups enough e₁ e₂ e₃ =
    let one = clear-keys m guids groups enough e₁ in
    let a₁ = ap (λ (x : Header). x.allowed) (sym (joined-header one)) in
    let two = joined-trans one (clear-paths m₁ (guids ∙ ap (λ (a : Allowances). a.guids) a₁) (groups ∙ ap (λ (a : Allowances). a.groups) a₁) (joined-enough one enough) e₂) in
    let a₂ = ap (λ (x : Header). x.allowed) (sym (joined-header two)) in
    joined-trans two (clear-leaves m₂ (guids ∙ ap (λ (a : Allowances). a.guids) a₂) (groups ∙ ap (λ (a : Allowances). a.groups) a₂) (joined-enough two enough) e₃)

-- ---- indexing all groups

-- the next group can be added
pub next-indexable : {m m' : List ℕ} {a b : ℕ} (g : ℕ) → Enough m → Unindexed (store_of m) → MoreIndexed m m' a b → g < (header_of m).groups → Indexable m' g
next-indexable {m} {m'} g enough u j low =
    indexable g (joined-enough j enough) (unwritten m') (relinked-unindexed j.relinked u) (subst (λ (x : Header). g < x.groups) (sym (joined-header j)) low)

pub rebuilt : {m m' : List ℕ} {n : ℕ} → Enough m → Unindexed (store_of m) → MoreIndexed m m' 0 n → n ≡ (header_of m).groups → Stepped m m' (held m)
rebuilt {m} enough u j q = joined-stepped enough (unwritten m) u (none-indexed (store_of m)) refl refl j q
