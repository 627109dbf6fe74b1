-- Laws for `push_guid` and `set_guid`: the memory stays well-formed, and only the GUID list changes.
use Rattle.std.specs.Prelude.{◌≡◌, ℕ, suc, ◌+◌, ◌-◌, ◌*◌, ◌^◌, ◌<◌, ◌≤◌, List, [], ◌∷◌, ◌++◌, length, ◌≢◌, slice_set, refl}
use Rattle.std.proofs.Math.Path.{sym, ap, ap₂}
use Rattle.std.proofs.Common.{◌∙◌, add-one, arith}
use Rattle.vrf_bitio.specs.Bits.{Bytes}
use Rattle.vrf_bitio.specs.Pasted.{pasted}
use Rattle.vrf_words.specs.Words.{part}
use Rattle.vrf_words.specs.Inner.Words.{set_word}
use Rattle.vrf_words.proofs.Laws.Words.{length-set_word, bytes-part, word_bound}
use Rattle.vrf_model.specs.Book.{Guid}
use Rattle.vrf_model.specs.Setting.{with_guids}
use Rattle.vrf_model.specs.Lawful.{Is32}
use Rattle.vrf_table.specs.Table.{key, len, info, text, key_bucket, key_start}
use Rattle.vrf_table.specs.Inner.Table.{set_text}
use Rattle.vrf_table.proofs.Laws.Chain.{by_equal}
use Rattle.vrf_table.proofs.Laws.Table.{key_bucket-lt, length-set_text, key-set_text, at-set_text, len-set_text, info-set_text, at-set_text-other, len-set_text-other, info-set_text-other}
use Rattle.vrf_store.specs.UpTo.{up_to, sum_below}
use Rattle.vrf_store.specs.Layout
use Rattle.vrf_store.specs.Store.{Store, allowances_of, header_of, words, store_of, guid_at, field_at, slot_by, group_by, content_of}
use Rattle.vrf_store.specs.Check.{text_sum}
use Rattle.vrf_store.specs.Inner.Valid.{ValidTable, Valid}
use Rattle.vrf_store.specs.Inner.Memory.{push_row, pushed}
use Rattle.vrf_store.specs.Inner.Stepped.{held, Stepped}
use Rattle.vrf_store.specs.Inner.Guids.{guid_of, NewGuid, OldGuid}
use Rattle.vrf_store.proofs.Laws.Memory.UpTo.{up_to-ext, up_to-set, sum_below-ext, sum_below-set, sum_below-at}
use Rattle.vrf_store.proofs.Laws.Memory.Regions.{with_guid_table}
use Rattle.vrf_store.proofs.Laws.Memory.Written.{guids_to, held_to, unwritten, stepped, wrote-guids, wrote-held, wrote-guid_table}
use Rattle.vrf_store.proofs.Laws.Memory.Rows.{length-push_row, key-push_row, len-push_row, info-push_row, text-push_row, key-push_row-other, len-push_row-other, info-push_row-other, text-push_row-other}
use Rattle.vrf_store.proofs.Laws.Memory.Rows.{NewRow, push-table, set-table}
use Rattle.vrf_store.proofs.Laws.Memory.Tables.{lent_to, Lent, lent, table_end, pushed-words, text-words}
use Rattle.vrf_store.proofs.Laws.Lookups.{guid-found}

-- ---- a store with another table of GUID records

-- the store with the rows r and the heads, where n rows are filled and the texts held have h bytes
abbrev with_guid_rows : Store → List ℕ → List ℕ → ℕ → ℕ → Store
with_guid_rows s r heads n h = held_to (guids_to (with_guid_table s r heads) n) h

module _ {s : Store} (v : Valid s) (r heads : List ℕ) (n h : ℕ) where
  -- what makes the new table good: its rows are valid, and h counts their texts
  record ValidGuids : Type 0 where
    rows_long : length r ≡ length s.guid_rows
    heads-long : length heads ≡ length s.guid_heads
    few : n ≤ s.header.allowed.guids
    space : h ≤ s.header.allowed.text
    table : ValidTable s.header.used s.texts r heads (Layout.guid_buckets s.header.allowed) n
    numbers : (e : ℕ) → e < n → Is32 (key r e) × Is32 (info r e)
    total : h + sum_below (len s.guid_rows) s.header.guids ≡ s.header.held + sum_below (len r) n

  tabled-valid : ValidGuids → Valid (with_guid_rows s r heads n h)
  unfolding text_sum
  tabled-valid g = record {
    shaped = record {
      guid_rows = g.rows_long ∙ v.shaped.guid_rows;
      guid_heads = g.heads-long ∙ v.shaped.guid_heads;
      group_rows = v.shaped.group_rows;
      group_heads = v.shaped.group_heads;
      path_links = v.shaped.path_links;
      path_heads = v.shaped.path_heads;
      leaf_links = v.shaped.leaf_links;
      leaf_heads = v.shaped.leaf_heads;
      field_rows = v.shaped.field_rows;
      field_heads = v.shaped.field_heads;
      texts = v.shaped.texts;
    };
    header = record { tops = v.header.tops; guids = g.few; groups = v.header.groups; fields = v.header.fields; held = g.space; used = v.header.used; half = v.header.half };
    guid_table = g.table;
    guids = g.numbers;
    group_table = v.group_table;
    groups = v.groups;
    paths = v.paths;
    leaves = v.leaves;
    field_table = v.field_table;
    fields = λ e k. let f = v.fields e k in (record { place = f.0.place; slot = f.0.slot }, f.1);
    total = omega (arith, g.total, v.total);
  }

tabled-content : (s : Store) (r heads : List ℕ) (n h : ℕ) → content_of (with_guid_rows s r heads n h) ≡ with_guids (content_of s) (up_to (guid_at (with_guid_rows s r heads n h)) n)
unfolding content_of with_guids group_by slot_by field_at
tabled-content s r heads n h = refl

-- ---- adding a record

module _ (m : List ℕ) (guid at l outer : ℕ) (h : NewGuid m guid at l) (bytes : Bytes m) (guid-fits : Is32 guid) (outer-fits : Is32 outer) where
  abbrev s : Store
  s = store_of m

  abbrev v : Valid s
  v = h.good.valid

  abbrev n : ℕ
  n = (header_of m).guids

  abbrev b : ℕ
  b = Layout.guid_buckets (allowances_of m)

  abbrev p : ℕ
  p = key_start s.guid_heads b guid

  abbrev new-rows : List ℕ
  new-rows = push_row s.guid_rows n guid p at l outer

  abbrev new-heads : List ℕ
  new-heads = set_word s.guid_heads (key_bucket b guid) (suc n)

  abbrev new-store : Store
  new-store = with_guid_rows s new-rows new-heads (suc n) ((header_of m).held + l)

  new_row : NewRow s.header.used s.texts s.guid_rows s.guid_heads b n guid at l outer
  unfolding key_start words
  new_row = record {
    fits = omega (arith, h.few, v.shaped.guid_rows);
    buckets = omega (arith, v.shaped.guid_heads);
    some-bucket = omega arith;
    few = omega (arith, h.few, v.header.tops.guids);
    key_fits = omega (arith, guid-fits);
    head-fits = word_bound s.guid_heads (key_bucket b guid) (bytes-part m _ _ bytes);
    at-fits = omega (arith, h.placed.within, v.header.used, v.header.tops.text);
    len-fits = omega (arith, h.placed.within, v.header.used, v.header.tops.text);
    new = sym (guid-found v guid) ∙ h.new;
    within = h.placed.within;
    is_text = h.placed.is_text;
  }

  fits : 24 * n + 24 ≤ length s.guid_rows
  fits = new_row.fits

  other : (e : ℕ) → e < n → e ≢ n
  other e k q = omega (arith, k, q)

  new-rows-long : length new-rows ≡ length s.guid_rows
  new-rows-long = length-push_row s.guid_rows n guid p at l outer fits

  new-heads-long : length new-heads ≡ length s.guid_heads
  new-heads-long = length-set_word s.guid_heads (key_bucket b guid) (suc n) (omega (arith, key_bucket-lt b guid new_row.some-bucket, new_row.buckets))

  new-numbers : (e : ℕ) → e < suc n → Is32 (key new-rows e) × Is32 (info new-rows e)
  new-numbers e k = by_equal e n
      (λ q. rw (q, key-push_row s.guid_rows n guid p at l outer fits new_row.key_fits, info-push_row s.guid_rows n guid p at l outer fits outer-fits) (guid-fits, outer-fits))
      (λ q. rw (key-push_row-other s.guid_rows n guid p at l outer fits e q, info-push_row-other s.guid_rows n guid p at l outer fits e q) (v.guids e (omega (arith, k, q))))

  new-total : sum_below (len new-rows) (suc n) ≡ sum_below (len s.guid_rows) n + l
  unfolding sum_below
  new-total = ap₂ ◌+◌
      (sum_below-ext (len new-rows) (len s.guid_rows) n (λ e k. len-push_row-other s.guid_rows n guid p at l outer fits e (other e k)))
      (len-push_row s.guid_rows n guid p at l outer fits new_row.len-fits)

  new-valid : Valid new-store
  new-valid = tabled-valid v new-rows new-heads (suc n) ((header_of m).held + l) (record {
    rows_long = new-rows-long;
    heads-long = new-heads-long;
    few = omega (arith, h.few);
    space = h.space;
    table = push-table s.header.used s.texts s.guid_rows s.guid_heads b n guid at l outer new_row v.guid_table;
    numbers = new-numbers;
    total = omega (arith, new-total);
  })

  new-content : content_of new-store ≡ with_guids (held m) ((held m).guids ++ (guid_of s guid at l outer ∷ []))
  unfolding content_of up_to guid_at
  new-content = tabled-content s new-rows new-heads (suc n) ((header_of m).held + l) ∙ ap (with_guids (held m)) (ap₂ (λ (gs : List Guid) (g : Guid). gs ++ (g ∷ []))
      (up_to-ext (guid_at new-store) (guid_at s) n (λ e k. rw (key-push_row-other s.guid_rows n guid p at l outer fits e (other e k), text-push_row-other s.guid_rows n guid p at l outer fits e (other e k) s.texts, info-push_row-other s.guid_rows n guid p at l outer fits e (other e k))))
      (rw (key-push_row s.guid_rows n guid p at l outer fits new_row.key_fits, text-push_row s.guid_rows n guid p at l outer fits s.texts new_row.at-fits new_row.len-fits, info-push_row s.guid_rows n guid p at l outer fits outer-fits)))

  pub push-guid : {cap k total : ℕ} {t m₁ m' : List ℕ} → cap ≡ (allowances_of m).guids → k ≡ n → total ≡ (header_of m).held
      → Lent m 128 (table_end 128 cap (4 * cap + 1)) (λ x. pushed x cap (4 * cap + 1) k guid at l outer) t → m₁ ≡ set_word (lent_to m 128 (table_end 128 cap (4 * cap + 1)) t) 5 (k + 1) → m' ≡ set_word m₁ 8 (total + l)
      → Stepped m m' (with_guids (held m) ((held m).guids ++ (guid_of s guid at l outer ∷ [])))
  push-guid {cap} {k} {total} {t} {m₁} {m'} ec ek et row e₁ e₂ =
      let enough = h.good.enough in
      let space : 128 ≤ length m = omega (arith, enough) in
      let table : lent_to m 128 (table_end 128 cap (4 * cap + 1)) t ≡ pasted m 128 (pushed (part m 128 (24 * cap + 4 * (4 * cap + 1))) cap (4 * cap + 1) k guid at l outer) = lent (24 * cap + 4 * (4 * cap + 1)) row (omega arith) (omega (arith, enough, ec)) in
      let as-words = pushed-words m 32 (allowances_of m).guids (Layout.guid_buckets (allowances_of m)) (omega (arith, enough)) n guid at l outer in
      let e : m' ≡ set_word (set_word (pasted m 128 (new-rows ++ new-heads)) 5 (suc n)) 8 ((header_of m).held + l) = e₂ ∙ rw (e₁, table, add-one k, ec, ek, et, as-words) in
      rw e
      (stepped enough
      (wrote-held
      (wrote-guids
      (wrote-guid_table (unwritten m) enough new-rows new-heads (new-rows-long ∙ v.shaped.guid_rows) (new-heads-long ∙ v.shaped.guid_heads))
      (suc n) new_row.few space)
      ((header_of m).held + l) (omega (arith, h.space, v.header.tops.text)) space)
      new-valid new-content refl)

-- ---- changing the path and outer of a record

-- the row of a record is inside the rows
pub row_in : {s : Store} → Valid s → (e : ℕ) → e < s.header.guids → 24 * e + 24 ≤ length s.guid_rows
row_in v e k = omega (arith, k, v.header.guids, v.shaped.guid_rows)

-- the path of a record counts among the bytes held
pub path-held : {s : Store} → Valid s → (e : ℕ) → e < s.header.guids → len s.guid_rows e ≤ s.header.held
unfolding text_sum
path-held {s} v e k = omega (arith, v.total, sum_below-at (len s.guid_rows) s.header.guids e k)

module _ (m : List ℕ) (e at l outer : ℕ) (h : OldGuid m e at l) (outer-fits : Is32 outer) where
  abbrev old : Store
  old = store_of m

  abbrev ok : Valid old
  ok = h.good.valid

  abbrev set-rows : List ℕ
  set-rows = set_text old.guid_rows e at l outer

  abbrev set-held : ℕ
  set-held = (header_of m).held - len old.guid_rows e + l

  abbrev set-store : Store
  set-store = with_guid_rows old set-rows old.guid_heads (header_of m).guids set-held

  set-fits : 24 * e + 24 ≤ length old.guid_rows
  set-fits = row_in ok e h.known

  at-fits : at < 2 ^ 32
  at-fits = omega (arith, h.placed.within, ok.header.used, ok.header.tops.text)

  len-fits : l < 2 ^ 32
  len-fits = omega (arith, h.placed.within, ok.header.used, ok.header.tops.text)

  set_long : length set-rows ≡ length old.guid_rows
  set_long = length-set_text old.guid_rows e at l outer set-fits

  set-numbers : (j : ℕ) → j < (header_of m).guids → Is32 (key set-rows j) × Is32 (info set-rows j)
  set-numbers j k = rw (key-set_text old.guid_rows e at l outer set-fits j) (
    (ok.guids j k).0,
    by_equal j e
        (λ q. rw (q, info-set_text old.guid_rows e at l outer set-fits outer-fits) outer-fits)
        (λ q. rw (info-set_text-other old.guid_rows e at l outer set-fits j q) (ok.guids j k).1),
  )

  set-total : sum_below (len set-rows) (header_of m).guids + len old.guid_rows e ≡ sum_below (len old.guid_rows) (header_of m).guids + l
  set-total =
      sum_below-set (len old.guid_rows) (len set-rows) (header_of m).guids e h.known (λ j k q. sym (len-set_text-other old.guid_rows e at l outer set-fits j q))
      ∙ ap (λ (x : ℕ). sum_below (len old.guid_rows) (header_of m).guids + x) (len-set_text old.guid_rows e at l outer set-fits len-fits)

  set-valid : Valid set-store
  set-valid = tabled-valid ok set-rows old.guid_heads (header_of m).guids set-held (record {
    rows_long = set_long;
    heads-long = refl;
    few = ok.header.guids;
    space = h.space;
    table = set-table old.header.used old.texts old.guid_rows old.guid_heads (Layout.guid_buckets (allowances_of m)) (header_of m).guids e at l outer h.known (omega (arith, ok.header.guids, ok.shaped.guid_rows)) at-fits len-fits h.placed ok.guid_table;
    numbers = set-numbers;
    total = omega (arith, set-total, path-held ok e h.known);
  })

  set-content : content_of set-store ≡ with_guids (held m) (slice_set (held m).guids e (guid_of old (key old.guid_rows e) at l outer))
  unfolding content_of guid_at text
  set-content = tabled-content old set-rows old.guid_heads (header_of m).guids set-held ∙ ap (with_guids (held m))
      (up_to-set (guid_at old) (guid_at set-store) (header_of m).guids e h.known (λ j k q. rw (key-set_text old.guid_rows e at l outer set-fits j, at-set_text-other old.guid_rows e at l outer set-fits j q, len-set_text-other old.guid_rows e at l outer set-fits j q, info-set_text-other old.guid_rows e at l outer set-fits j q))
      ∙ ap (slice_set (held m).guids e) (rw (key-set_text old.guid_rows e at l outer set-fits e, at-set_text old.guid_rows e at l outer set-fits at-fits, len-set_text old.guid_rows e at l outer set-fits len-fits, info-set_text old.guid_rows e at l outer set-fits outer-fits)))

  pub set-guid : {cap total : ℕ} {t m' : List ℕ} → cap ≡ (allowances_of m).guids → total ≡ set-held
      → Lent m 128 (table_end 128 cap (4 * cap + 1)) (λ x. set_text x e at l outer) t → m' ≡ set_word (lent_to m 128 (table_end 128 cap (4 * cap + 1)) t) 8 total
      → Stepped m m' (with_guids (held m) (slice_set (held m).guids e (guid_of old (key old.guid_rows e) at l outer)))
  set-guid {cap} {total} {t} {m'} ec et row e₁ =
      let enough = h.good.enough in
      let table : lent_to m 128 (table_end 128 cap (4 * cap + 1)) t ≡ pasted m 128 (set_text (part m 128 (24 * cap + 4 * (4 * cap + 1))) e at l outer) = lent (24 * cap + 4 * (4 * cap + 1)) row (omega arith) (omega (arith, enough, ec)) in
      let as-words = text-words m 32 (allowances_of m).guids (Layout.guid_buckets (allowances_of m)) (omega (arith, enough)) e (omega (arith, h.known, ok.header.guids)) at l outer in
      let q : m' ≡ set_word (pasted m 128 (set-rows ++ old.guid_heads)) 8 set-held = e₁ ∙ rw (table, ec, et, as-words) in
      rw q
      (stepped enough
      (wrote-held
      (wrote-guid_table (unwritten m) enough set-rows old.guid_heads (set_long ∙ ok.shaped.guid_rows) ok.shaped.guid_heads)
      set-held (omega (arith, h.space, ok.header.tops.text)) (omega (arith, enough)))
      set-valid set-content refl)
