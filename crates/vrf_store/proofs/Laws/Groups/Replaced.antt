-- Laws for `set_row`, `set_group` and `replace_group`: the row is written, and the indexes are rebuilt.
use Rattle.std.specs.Prelude.{◌≡◌, ℕ, ◌+◌, ◌-◌, ◌*◌, ◌/◌, ◌%◌, ◌<◌, ◌≤◌, ◌≢◌, List, length, slice_set}
use Rattle.std.proofs.Common.{sym, subst, ◌∙◌, arith, eqb-true, eq-eqb}
use Rattle.std.proofs.Math.Path.{ap}
use Rattle.std.proofs.Math.Option.{Option}
use Rattle.vrf_bitio.proofs.Laws.Cases.{clash}
use Rattle.vrf_words.specs.Words.{part}
use Rattle.vrf_words.specs.Inner.Words.{set_word}
use Rattle.vrf_model.specs.Book.{empty, filled, Content}
use Rattle.vrf_model.specs.Lookup.{index_place, slot_at}
use Rattle.vrf_model.specs.Setting.{with_groups, new_group, merged_group}
use Rattle.vrf_model.specs.Lawful.{Is32}
use Rattle.vrf_table.specs.Chain.{last_below}
use Rattle.vrf_table.specs.Table.{key, len, info, text, key_hit, find_key}
use Rattle.vrf_table.proofs.Laws.Chain.{Passes, last_below-passes, last_below-reach}
use Rattle.vrf_store.specs.UpTo.{sum_below}
use Rattle.vrf_store.specs.Layout
use Rattle.vrf_store.specs.Store.{Store, header_of, store_of, field_at, or_empty, slot_key, group_by, content_of}
use Rattle.vrf_store.specs.Check.{text_sum}
use Rattle.vrf_store.specs.Inner.Valid.{Valid}
use Rattle.vrf_store.specs.Inner.WellFormed.{Enough}
use Rattle.vrf_store.specs.Inner.Memory.{WrittenStore, push_row}
use Rattle.vrf_store.specs.Inner.Stepped.{held, Stepped}
use Rattle.vrf_store.specs.Inner.Fields.{with_group}
use Rattle.vrf_store.specs.Inner.Groups.{Unindexed, put_group, Only, OldGroup, Handles, group_of, Emptied}
use Rattle.vrf_store.proofs.Laws.Memory.UpTo.{sum_below-set, sum_below-at}
use Rattle.vrf_store.proofs.Laws.Memory.Written.{wrote-held}
use Rattle.vrf_store.proofs.Laws.Memory.Rows.{len-push_row, len-push_row-other}
use Rattle.vrf_store.proofs.Laws.Check.Accepted.{slot_key-of}
use Rattle.vrf_store.proofs.Laws.Lookups.{group-altered, index-found, slot-found}
use Rattle.vrf_store.proofs.Laws.Groups.Index.{valid-unindexed}
use Rattle.vrf_store.proofs.Laws.Groups.Changes.{slots-none, with_group_row, ValidRow, put-unindexed, put_other, put-own, put-content}
use Rattle.vrf_store.proofs.Laws.Groups.Merged.{one-group, same-group, grown-slots}

-- ---- writing the row

-- no other group has this index
others : {s : Store} → Valid s → (e k : ℕ) → Only e (index_place k (content_of s).groups) → (j : ℕ) → j < s.header.groups → j ≢ e → key s.group_rows j ≢ k
unfolding find_key key_hit
others {s} v e k only j low ne q =
    let hit = key_hit s.group_rows k in
    let last : index_place k (content_of s).groups ≡ last_below hit s.header.groups = index-found v k ∙ v.group_table.latest k in
    let reach = last_below-reach hit s.header.groups j low (eq-eqb _ _ q) in
    let it = subst (λ (o : Option ℕ). Passes hit s.header.groups o) reach.1.0 (last_below-passes hit s.header.groups) in
    let found : reach.0 ≡ e = subst (λ (o : Option ℕ). Only e o) (last ∙ reach.1.0) only in
    ne (v.group_table.distinct j reach.0 low it.0 (q ∙ sym (eqb-true (key s.group_rows reach.0) k it.1)) ∙ found)

-- the path of a group counts among the bytes held
pub path-held : {s : Store} → Valid s → (e : ℕ) → e < s.header.groups → len s.group_rows e ≤ s.header.held
unfolding text_sum
path-held {s} v e h = omega (arith, v.total, sum_below-at (len s.group_rows) s.header.groups e h)

pub row_in : {s : Store} → Valid s → (e : ℕ) → e < s.header.groups → 24 * e + 24 ≤ length s.group_rows
row_in v e h = omega (arith, h, v.header.groups, v.shaped.group_rows)

module _ (m : List ℕ) (e k a l i : ℕ) (x : OldGroup m e k a l i) (key_fits : Is32 k) (below : Handles (store_of m) e i) where
  abbrev s : Store
  s = store_of m

  abbrev v : Valid s
  v = x.good.valid

  abbrev n : ℕ
  n = (header_of m).groups

  abbrev h : ℕ
  h = (header_of m).held - len s.group_rows e + l

  abbrev s' : Store
  s' = with_group_row s e k a l i n h

  fits : 24 * e + 24 ≤ length s.group_rows
  fits = row_in v e x.known

  set-total : sum_below (len (push_row s.group_rows e k 0 a l i)) n + len s.group_rows e ≡ sum_below (len s.group_rows) n + l
  set-total =
      sum_below-set (len s.group_rows) (len (push_row s.group_rows e k 0 a l i)) n e x.known (λ j b q. sym (len-push_row-other s.group_rows e k 0 a l i fits j q))
      ∙ ap (λ (y : ℕ). sum_below (len s.group_rows) n + y) (len-push_row s.group_rows e k 0 a l i fits (omega (arith, x.placed.within, v.header.used, v.header.tops.text)))

  set-row : ValidRow s e k a l i n h
  set-row = record {
    row = x.known;
    few = v.header.groups;
    others = λ j b q. b;
    kept = omega arith;
    key_fits = key_fits;
    new = others v e k x.free;
    placed = x.placed;
    slots = x.handles;
    filled = below;
    space = x.space;
    total = omega (arith, set-total, path-held v e x.known);
  }

  set-unindexed : Unindexed s'
  set-unindexed = put-unindexed s e k a l i n h (valid-unindexed v) set-row

  set-content : content_of s' ≡ with_group (held m) e (λ _. group_of s e k a l i)
  unfolding group_of
  set-content =
      let u = valid-unindexed v in
      put-content s e k a l i n h u set-row
      ∙ one-group s e x.known (group_by s' (header_of m).fields) (λ _. group_of s e k a l i) (put_other s e k a l i n h u set-row) (put-own s e k a l i n h u set-row)

  -- the writes, and then the rebuilt indexes
  pub set-written : {t was : ℕ} {m₁ m₂ : List ℕ} → t ≡ (header_of m).held → was ≡ len s.group_rows e → WrittenStore m m₁ (put_group s e k a l i) → m₂ ≡ set_word m₁ 8 (t - was + l) → WrittenStore m m₂ s'
  set-written {t} {was} {m₁} {m₂} et ew w q =
      let z : m₂ ≡ set_word m₁ 8 h = q ∙ rw (et, ew) in
      rw z (wrote-held w h (omega (arith, x.space, v.header.tops.text)) (omega (arith, x.good.enough)))

  pub set-ready : {m₂ : List ℕ} → WrittenStore m m₂ s' → Enough m₂ × Unindexed (store_of m₂)
  set-ready w = (omega (arith, ap Layout.need w.allowed, w.long, x.good.enough), subst (λ (z : Store). Unindexed z) (sym w.store) set-unindexed)

  pub set-stepped : {m₂ m₃ : List ℕ} → WrittenStore m m₂ s' → Stepped m₂ m₃ (held m₂) → Stepped m m₃ (with_group (held m) e (λ _. group_of s e k a l i))
  set-stepped w y = record { good = y.good; content = y.content ∙ ap content_of w.store ∙ set-content; counters = y.counters ∙ w.counters; long = y.long ∙ w.long; literals = y.literals ∙ ap (λ (z : Store). z.literals) w.store }

-- ---- merging: the group keeps its fields and never loses a slot

module _ {m : List ℕ} {e k a l i : ℕ} (x : OldGroup m e k a l i) (n : ℕ) (most : n ≡ info (store_of m).group_rows e + (i - info (store_of m).group_rows e)) where
  pub merge-old : OldGroup m e k a l n
  merge-old = record { good = x.good; known = x.known; free = x.free; placed = x.placed; handles = omega (arith, x.handles, (x.good.valid.groups e x.known).1, most); space = x.space }

  pub merge-handles : Handles (store_of m) e n
  merge-handles j b q = omega (arith, (x.good.valid.fields j b).0.slot, ap (info (store_of m).group_rows) q, most)

  pub merge-content : with_group (held m) e (λ _. group_of (store_of m) e k a l n) ≡ with_group (held m) e (merged_group (part (store_of m).texts a l) k i)
  unfolding group_of merged_group group_by
  merge-content = same-group (store_of m) e x.known (λ _. group_of (store_of m) e k a l n) (merged_group (part (store_of m).texts a l) k i)
      (rw (grown-slots (store_of m) (λ j b. (x.good.valid.fields j b).0) e i n most merge-old.handles))

-- ---- replacing a group that has no fields

no_fields : {s : Store} → Valid s → (e : ℕ) → e < s.header.groups → Emptied (content_of s) e → (j : ℕ) → j < s.header.fields → key s.field_rows j / 65536 ≢ e
unfolding find_key key_hit or_empty field_at
no_fields {s} v e low none-there j b q =
    let p : ℕ = key s.field_rows j % 65536 in
    let at : key s.field_rows j ≡ slot_key e p = sym (slot_key-of (key s.field_rows j)) ∙ ap (λ (g : ℕ). slot_key g p) q in
    let reach = last_below-reach (key_hit s.field_rows (slot_key e p)) s.header.fields j b (eq-eqb _ _ at) in
    let found : slot_at (content_of s).groups e p ≡ field_at s reach.0 = slot-found v e p low (omega (arith, (v.fields j b).0.slot, ap (info s.group_rows) q)) ∙ ap (or_empty (field_at s)) (v.field_table.latest (slot_key e p) ∙ reach.1.0) in
    clash (let z : empty ≡ filled (info s.field_rows reach.0) (text s.field_rows s.texts reach.0) = sym (none-there p) ∙ found in cc)

module _ {m : List ℕ} {e k a l i : ℕ} (x : OldGroup m e k a l i) (none-there : Emptied (held m) e) where
  nothing : (j : ℕ) → j < (header_of m).fields → key (store_of m).field_rows j / 65536 ≢ e
  nothing = no_fields x.good.valid e x.known none-there

  pub replace-handles : Handles (store_of m) e i
  replace-handles j b q = absurd (nothing j b q)

  pub replace-content : with_group (held m) e (λ _. group_of (store_of m) e k a l i) ≡ with_groups (held m) (slice_set (held m).groups e (new_group (part (store_of m).texts a l) k i))
  unfolding group_of new_group
  replace-content =
      ap (with_groups (held m)) (group-altered (store_of m) e (λ _. group_of (store_of m) e k a l i) x.known
      ∙ ap (slice_set (held m).groups e) (rw (slots-none (store_of m) e i x.handles nothing)))

-- the same change for an equal content
pub stepped-as : {m m' : List ℕ} {c d : Content} → Stepped m m' c → c ≡ d → Stepped m m' d
stepped-as y q = record { good = y.good; content = y.content ∙ q; counters = y.counters; long = y.long; literals = y.literals }
