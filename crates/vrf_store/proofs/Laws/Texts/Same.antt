-- A store whose texts were moved is still valid and holds the same book. Appending and moving texts use this.
use Rattle.std.specs.Prelude.{◌≡◌, ℕ, ◌+◌, ◌/◌, ◌<◌, ◌≤◌, List, length, nat_eq}
use Rattle.std.proofs.Math.Path.{refl, ap}
use Rattle.std.proofs.Common.{sym, subst, ◌∙◌, arith}
use Rattle.std.proofs.Math.Option.{Option, none, some}
use Rattle.vrf_bitio.specs.Pasted.{pasted}
use Rattle.vrf_words.proofs.Laws.Words.{part-pasted-below}
use Rattle.vrf_table.specs.Chain.{last_below}
use Rattle.vrf_table.specs.Table.{key, link, at, len, info, text, key_hit}
use Rattle.vrf_table.proofs.Laws.Chain.{Passes, last_below-passes, last_below-ext}
use Rattle.vrf_store.specs.UpTo.{sum_below}
use Rattle.vrf_store.specs.Layout
use Rattle.vrf_store.specs.Store.{Store, allowances_of, header_of, store_of, content_of, guid_at, field_at, or_empty, slot_key, slot_by, group_by}
use Rattle.vrf_store.specs.Check.{text_sum}
use Rattle.vrf_store.specs.Inner.Valid.{Shaped, ValidTable, Valid}
use Rattle.vrf_store.specs.Inner.WellFormed.{Enough, WellFormed}
use Rattle.vrf_store.specs.Inner.Memory.{WrittenStore}
use Rattle.vrf_store.specs.Inner.Stepped.{held, Stepped}
use Rattle.vrf_store.specs.Inner.Texts.{with_moved_texts}
use Rattle.vrf_store.proofs.Laws.Memory.UpTo.{up_to-ext, sum_below-ext}
use Rattle.vrf_store.proofs.Laws.Memory.Written.{stepped}
use Rattle.vrf_store.proofs.Laws.Memory.Rows.{same_keys}
use Rattle.vrf_store.proofs.Laws.Check.Valid.{need-shaped}
use Rattle.vrf_store.proofs.Laws.Groups.TextIndex.{same-paths, same-leaves}

-- ---- a table

-- n rows r with texts in x, and n rows r' with texts in y, inside its first `used` bytes. They are equal, except for the places of the
-- texts
pub record SameBook (r x r' y : List ℕ) (used n : ℕ) : Type 0 where
  pub keys : (e : ℕ) → e < n → key r' e ≡ key r e
  pub links : (e : ℕ) → e < n → link r' e ≡ link r e
  pub lens : (e : ℕ) → e < n → len r' e ≡ len r e
  pub infos : (e : ℕ) → e < n → info r' e ≡ info r e
  pub texts : (e : ℕ) → e < n → text r' y e ≡ text r x e
  pub within : (e : ℕ) → e < n → at r' e + len r' e ≤ used

-- texts written after the bytes used
pub same-grown : {used : ℕ} {x r heads : List ℕ} {b n : ℕ} (t : List ℕ) → used + length t ≤ length x → ValidTable used x r heads b n → SameBook r x r (pasted x used t) (used + length t) n
unfolding text
same-grown {used} {x} {r} t fits g = record {
  keys = λ e h. refl;
  links = λ e h. refl;
  lens = λ e h. refl;
  infos = λ e h. refl;
  texts = λ e h. part-pasted-below x t used (at r e) (len r e) (g.texts e h).within fits;
  within = λ e h. omega (arith, (g.texts e h).within);
}

module _ {r x r' y : List ℕ} {used' n : ℕ} (same : SameBook r x r' y used' n) where
  same-hits : (k e : ℕ) → e < n → key_hit r k e ≡ key_hit r' k e
  unfolding key_hit
  same-hits k e h = ap (λ (z : ℕ). nat_eq z k) (sym (same.keys e h))

  pub same-table : {used b : ℕ} {heads : List ℕ} → ValidTable used x r heads b n → ValidTable used' y r' heads b n
  same-table {b = b} {heads = heads} g = record {
    texts = λ e h. record { within = same.within e h; is_text = rw (same.texts e h) (g.texts e h).is_text };
    distinct = λ i j hi hj q. g.distinct i j hi hj (sym (same.keys i hi) ∙ q ∙ same.keys j hj);
    latest = same_keys r r' heads b n same.keys same.links g.latest;
  }

  pub same_sum : sum_below (len r') n ≡ sum_below (len r) n
  same_sum = sum_below-ext (len r') (len r) n same.lens

-- ---- a store

module _ (s : Store) (used half : ℕ) {g r f x : List ℕ}
    (guids : SameBook s.guid_rows s.texts g x used s.header.guids)
    (groups : SameBook s.group_rows s.texts r x used s.header.groups)
    (fields : SameBook s.field_rows s.texts f x used s.header.fields) where
  abbrev s' : Store
  s' = with_moved_texts s used half g r f x

  moved-texts-valid : Valid s → Shaped s' → used ≤ s.header.allowed.text → half ≤ 1 → Valid s'
  unfolding text_sum
  moved-texts-valid v shaped fits bit = record {
    shaped = shaped;
    header = record { tops = v.header.tops; guids = v.header.guids; groups = v.header.groups; fields = v.header.fields; held = v.header.held; used = fits; half = bit };
    guid_table = same-table guids v.guid_table;
    guids = λ e h. rw (guids.keys e h, guids.infos e h) (v.guids e h);
    group_table = same-table groups v.group_table;
    groups = λ e h. rw (groups.keys e h, groups.infos e h) (v.groups e h);
    paths = same-paths s.group_rows s.texts r x s.header.groups groups.texts s.path_links s.path_heads (Layout.path_buckets s.header.allowed) v.paths;
    leaves = same-leaves s.group_rows s.texts r x s.header.groups groups.texts s.leaf_links s.leaf_heads (Layout.leaf_buckets s.header.allowed) v.leaves;
    field_table = same-table fields v.field_table;
    fields = λ e h.
        let slot = (v.fields e h).0 in
        let place : key f e / 65536 < s.header.groups = rw (fields.keys e h) slot.place in
        (record { place = place; slot = rw (groups.infos (key f e / 65536) place, fields.keys e h) slot.slot }, rw (fields.infos e h) (v.fields e h).1);
    total = omega (arith, v.total, same_sum guids, same_sum groups, same_sum fields);
  }

  moved-texts-guid : (e : ℕ) → e < s.header.guids → guid_at s' e ≡ guid_at s e
  unfolding guid_at
  moved-texts-guid e h = rw (guids.keys e h, guids.texts e h, guids.infos e h)

  moved-texts-slot : (place slot : ℕ) → slot_by s' s.header.fields place slot ≡ slot_by s s.header.fields place slot
  unfolding slot_by field_at or_empty
  moved-texts-slot place slot =
      ap (or_empty (field_at s')) (sym (last_below-ext _ _ s.header.fields (same-hits fields (slot_key place slot))))
      ∙ go (last_below (key_hit s.field_rows (slot_key place slot)) s.header.fields) (last_below-passes _ s.header.fields)
    where
      go : (o : Option ℕ) → Passes (key_hit s.field_rows (slot_key place slot)) s.header.fields o → or_empty (field_at s') o ≡ or_empty (field_at s) o
      go none p = refl
      go (some e) p = rw (fields.infos e p.0, fields.texts e p.0)

  moved-texts-group : (e : ℕ) → e < s.header.groups → group_by s' s.header.fields e ≡ group_by s s.header.fields e
  unfolding group_by
  moved-texts-group e h = rw (groups.texts e h, groups.keys e h, groups.infos e h, up_to-ext _ _ (info s.group_rows e) (λ q k. moved-texts-slot e q))

  moved-texts-content : content_of s' ≡ content_of s
  unfolding content_of
  moved-texts-content = rw (up_to-ext _ _ s.header.guids moved-texts-guid, up_to-ext _ _ s.header.groups moved-texts-group)

-- ---- a memory

-- writes that lead to such a store keep the book
module _ {m m' : List ℕ} (good : WellFormed m) (used half : ℕ) {g r f x : List ℕ}
    (guids : SameBook (store_of m).guid_rows (store_of m).texts g x used (header_of m).guids)
    (groups : SameBook (store_of m).group_rows (store_of m).texts r x used (header_of m).groups)
    (fields : SameBook (store_of m).field_rows (store_of m).texts f x used (header_of m).fields) where
  pub moved-texts-stepped : used ≤ (allowances_of m).text → half ≤ 1 → WrittenStore m m' (with_moved_texts (store_of m) used half g r f x) → Stepped m m' (held m)
  moved-texts-stepped fits bit w =
      let enough : Enough m' = omega (arith, ap Layout.need w.allowed, w.long, good.enough) in
      let shaped = subst (λ (s : Store). Shaped s) w.store (need-shaped (header_of m') m' enough) in
      stepped good.enough w (moved-texts-valid (store_of m) used half guids groups fields good.valid shaped fits bit) (moved-texts-content (store_of m) used half guids groups fields) refl
