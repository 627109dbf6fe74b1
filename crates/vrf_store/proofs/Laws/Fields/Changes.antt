-- Laws for `push_field` and `set_field_row`: the store stays valid, and one slot of the book changes.
use Rattle.std.specs.Prelude.{◌≡◌, ℕ, suc, ◌+◌, ◌-◌, ◌*◌, ◌/◌, ◌%◌, ◌^◌, ◌<◌, ◌≤◌, Bool, ◌≢◌, List, length, nat_eq, refl}
use Rattle.std.proofs.Math.Path.{sym}
use Rattle.std.proofs.Common.{ap, ◌∙◌, arith, eqb-true, eq-eqb, ne_eqb}
use Rattle.std.proofs.Math.Option.{Option, none, some}
use Rattle.vrf_words.specs.Words.{part}
use Rattle.vrf_words.specs.Inner.Words.{set_word}
use Rattle.vrf_words.proofs.Laws.Words.{length-set_word}
use Rattle.vrf_model.specs.Book.{Slot, filled, Group}
use Rattle.vrf_model.specs.Setting.{with_groups, with_slot}
use Rattle.vrf_model.specs.Lawful.{Is32}
use Rattle.vrf_table.specs.Chain.{last_below}
use Rattle.vrf_table.specs.Table.{key, len, info, text, key_hit, key_bucket, key_start}
use Rattle.vrf_table.specs.Inner.Table.{set_text}
use Rattle.vrf_table.proofs.Laws.Chain.{by_equal, Passes, last_below-passes, last_below-ext, last_below-last}
use Rattle.vrf_table.proofs.Laws.Table.{key_bucket-lt, length-set_text, key-set_text, at-set_text, len-set_text, info-set_text, at-set_text-other, len-set_text-other, info-set_text-other}
use Rattle.vrf_store.specs.UpTo.{sum_below}
use Rattle.vrf_store.specs.Layout
use Rattle.vrf_store.specs.Store.{Store, guid_at, field_at, or_empty, slot_key, slot_by, group_by, content_of}
use Rattle.vrf_store.specs.Check.{text_sum}
use Rattle.vrf_store.specs.Inner.Valid.{ValidTable, ValidSlotKey, Valid}
use Rattle.vrf_store.specs.Inner.Memory.{push_row}
use Rattle.vrf_store.specs.Inner.Fields.{with_group, with_field, NewField, NewName}
use Rattle.vrf_store.proofs.Laws.Memory.UpTo.{up_to-ext, up_to-set, sum_below-ext, sum_below-set, sum_below-at}
use Rattle.vrf_store.proofs.Laws.Memory.Regions.{with_field_table}
use Rattle.vrf_store.proofs.Laws.Memory.Written.{fields_to, held_to}
use Rattle.vrf_store.proofs.Laws.Memory.Rows.{length-push_row, NewRow, push-table, set-table, key-push_row, key-push_row-other, len-push_row, len-push_row-other, info-push_row, info-push_row-other}
use Rattle.vrf_store.proofs.Laws.Memory.Rows.{text-push_row, text-push_row-other}
use Rattle.vrf_store.proofs.Laws.Check.Accepted.{slot_key-of, slot_key-only, slot_by-other, slot_by-after}
use Rattle.vrf_store.proofs.Laws.Lookups.{group-altered}

-- ---- a store with other field rows

-- the store with n fields in the rows r, where all texts have t bytes
abbrev pub with_fields : Store → List ℕ → List ℕ → ℕ → ℕ → Store
with_fields s r heads n t = held_to (fields_to (with_field_table s r heads) n) t

-- the bytes of all texts except the names of fields
abbrev pub other_text : Store → ℕ
other_text s = sum_below (len s.guid_rows) s.header.guids + sum_below (len s.group_rows) s.header.groups

-- what makes the new rows good
pub record NewFields (s : Store) (r heads : List ℕ) (n t : ℕ) : Type 0 where
  pub rows_long : length r ≡ length s.field_rows
  pub heads-long : length heads ≡ length s.field_heads
  pub few : n ≤ s.header.allowed.fields
  pub held : t ≤ s.header.allowed.text
  pub table : ValidTable s.header.used s.texts r heads (Layout.field_buckets s.header.allowed) n
  pub fields : (e : ℕ) → e < n → ValidSlotKey s (key r e) × Is32 (info r e)
  pub total : other_text s + sum_below (len r) n ≡ t

module _ {s : Store} (v : Valid s) (r heads : List ℕ) (n t : ℕ) where
  pub fields-valid : NewFields s r heads n t → Valid (with_fields s r heads n t)
  unfolding text_sum
  fields-valid w = record {
    shaped = omega (arith, v.shaped, w.rows_long, w.heads-long);
    header = omega (arith, v.header, w.few, w.held);
    guid_table = v.guid_table;
    guids = v.guids;
    group_table = v.group_table;
    groups = v.groups;
    paths = v.paths;
    leaves = v.leaves;
    field_table = w.table;
    fields = λ e h. let k = w.fields e h in (record { place = k.0.place; slot = k.0.slot }, k.1);
    total = w.total;
  }

-- ---- changing the slots of one group

module _ (s : Store) (r heads : List ℕ) (n t place : ℕ) (h : place < s.header.groups) where
  abbrev current : Store
  current = with_fields s r heads n t

  -- the slots of all other groups are unchanged
  abbrev pub OtherSlots : Type 0
  OtherSlots = (g q : ℕ) → g < s.header.groups → q < info s.group_rows g → g ≢ place → slot_by s s.header.fields g q ≡ slot_by current n g q

  other-group : OtherSlots → (g : ℕ) → g < s.header.groups → g ≢ place → group_by s s.header.fields g ≡ group_by current n g
  unfolding group_by
  other-group o g l ne = rw (up_to-ext (slot_by s s.header.fields g) (slot_by current n g) (info s.group_rows g) (λ q m. o g q l m ne))

  pub one-group : (f : Group → Group) → group_by current n place ≡ f (group_by s s.header.fields place) → OtherSlots → content_of current ≡ with_group (content_of s) place f
  unfolding content_of guid_at with_groups
  one-group f own o = rw (group-altered s place f h, ← own, up_to-set (group_by s s.header.fields) (group_by current n) s.header.groups place h (other-group o))

  -- this slot is now w, and all others are unchanged
  pub record SlotChanged (slot : ℕ) (w : Slot) : Type 0 where
    pub own : slot_by current n place slot ≡ w
    pub others : (g q : ℕ) → g < s.header.groups → q < info s.group_rows g → ((g ≡ place) × (q ≡ slot) → ⊥) → slot_by s s.header.fields g q ≡ slot_by current n g q

  own-group : (slot : ℕ) (w : Slot) → slot < info s.group_rows place → SlotChanged slot w → group_by current n place ≡ with_slot slot w (group_by s s.header.fields place)
  unfolding group_by with_slot
  own-group slot w k o = rw (up_to-set (slot_by s s.header.fields place) (slot_by current n place) (info s.group_rows place) slot k (λ q l ne. o.others place q h l (λ e. ne e.1)), o.own)

  one-slot : (slot : ℕ) (w : Slot) → slot < info s.group_rows place → SlotChanged slot w → content_of current ≡ with_field (content_of s) place slot w
  one-slot slot w k o = one-group (with_slot slot w) (own-group slot w k o) (λ g q l m ne. o.others g q l m (λ e. ne e.0))

-- ---- slots read from rows that agree

-- rows with the same keys give the same slot, if the fields in that slot are the same
slot_by-agrees : (s s' : Store) (n g q : ℕ) → ((e : ℕ) → e < n → key s.field_rows e ≡ key s'.field_rows e) → ((e : ℕ) → e < n → key s.field_rows e ≡ slot_key g q → field_at s e ≡ field_at s' e) → slot_by s n g q ≡ slot_by s' n g q
unfolding slot_by key_hit or_empty
slot_by-agrees s s' n g q keys fields = go (last_below hit n) (last_below-passes hit n) ∙ ap (or_empty (field_at s')) (last_below-ext hit (key_hit s'.field_rows (slot_key g q)) n (λ e h. ap (λ (k : ℕ). nat_eq k (slot_key g q)) (keys e h)))
  where
    hit : ℕ → Bool
    hit = key_hit s.field_rows (slot_key g q)

    go : (o : Option ℕ) → Passes hit n o → or_empty (field_at s) o ≡ or_empty (field_at s') o
    go none p = refl
    go (some e) p = fields e p.0 (eqb-true (key s.field_rows e) (slot_key g q) p.1)

-- the slot of row e holds its field, because no other row has its key
pub slot_by-row : {s : Store} (v : Valid s) (e : ℕ) → e < s.header.fields → slot_by s s.header.fields (key s.field_rows e / 65536) (key s.field_rows e % 65536) ≡ field_at s e
unfolding slot_by key_hit or_empty
slot_by-row {s} v e h = rw (slot_key-of (key s.field_rows e))
    (ap (or_empty (field_at s)) (last_below-last (key_hit s.field_rows (key s.field_rows e)) s.header.fields e h (eq-eqb (key s.field_rows e) (key s.field_rows e) refl)
    (λ j a b. ne_eqb (key s.field_rows j) (key s.field_rows e) (λ q. omega (arith, a, v.field_table.distinct j e b h q)))))

-- ---- adding a field

module _ {s : Store} (v : Valid s) (place slot a l i : ℕ) (w : NewField s place slot a l) (checksum : Is32 i) (head-fits : key_start s.field_heads (Layout.field_buckets s.header.allowed) (slot_key place slot) < 2 ^ 32) where
  abbrev n : ℕ
  n = s.header.fields

  abbrev b : ℕ
  b = Layout.field_buckets s.header.allowed

  abbrev k : ℕ
  k = slot_key place slot

  abbrev p : ℕ
  p = key_start s.field_heads b k

  abbrev rows : List ℕ
  rows = push_row s.field_rows n k p a l i

  abbrev heads : List ℕ
  heads = set_word s.field_heads (key_bucket b k) (suc n)

  abbrev more : Store
  more = with_fields s rows heads (suc n) (s.header.held + l)

  slot-few : slot < 65536
  slot-few = omega (arith, w.slot-in, (v.groups place w.place_in).1)

  key-small : k < 2 ^ 64
  unfolding slot_key
  key-small = omega (arith, slot-few, w.place_in, v.header.groups, v.header.tops.groups)

  new_row : NewRow s.header.used s.texts s.field_rows s.field_heads b n k a l i
  new_row = record {
    fits = omega (arith, v.shaped.field_rows, w.space);
    buckets = omega (arith, v.shaped.field_heads);
    some-bucket = omega arith;
    few = omega (arith, v.header.fields, v.header.tops.fields);
    key_fits = key-small;
    head-fits = head-fits;
    at-fits = omega (arith, w.placed.within, v.header.used, v.header.tops.text);
    len-fits = omega (arith, w.placed.within, v.header.used, v.header.tops.text);
    new = w.new;
    within = w.placed.within;
    is_text = w.placed.is_text;
  }

  fits : 24 * n + 24 ≤ length s.field_rows
  fits = new_row.fits

  -- the key of the new row is the key of its slot
  own_key : key rows n ≡ k
  own_key = key-push_row s.field_rows n k p a l i fits key-small

  old-key : (e : ℕ) → e < n → key s.field_rows e ≡ key rows e
  old-key e h = sym (key-push_row-other s.field_rows n k p a l i fits e (λ q. omega (arith, h, q)))

  old-field : (e : ℕ) → e < n → field_at s e ≡ field_at more e
  unfolding field_at
  old-field e h =
      let ne : e ≢ n = λ q. omega (arith, h, q) in
      rw (info-push_row-other s.field_rows n k p a l i fits e ne, text-push_row-other s.field_rows n k p a l i fits e ne s.texts)

  own-slot-key : ValidSlotKey s k
  unfolding slot_key
  own-slot-key =
      let d : place ≡ k / 65536 = omega (arith, slot-few) in
      let m : slot ≡ k % 65536 = omega (arith, slot-few) in
      record { place = rw (← d) w.place_in; slot = rw (← d, ← m) w.slot-in }

  pushed-fields : (e : ℕ) → e < suc n → ValidSlotKey s (key rows e) × Is32 (info rows e)
  pushed-fields e h = by_equal e n
      (λ q. (rw (q, own_key) own-slot-key, rw (q, info-push_row s.field_rows n k p a l i fits checksum) checksum))
      (λ q. let old = v.fields e (omega (arith, h, q)) in
      (rw (old-key e (omega (arith, h, q))) at old.0, rw (info-push_row-other s.field_rows n k p a l i fits e q) old.1))

  pushed-total : other_text s + sum_below (len rows) (suc n) ≡ s.header.held + l
  unfolding sum_below text_sum
  pushed-total =
      let old = sum_below-ext (len rows) (len s.field_rows) n (λ e h. len-push_row-other s.field_rows n k p a l i fits e (λ q. omega (arith, h, q))) in
      omega (arith, old, len-push_row s.field_rows n k p a l i fits new_row.len-fits, v.total)

  pub push-valid : Valid more
  push-valid = fields-valid v rows heads (suc n) (s.header.held + l) (record {
    rows_long = length-push_row s.field_rows n k p a l i fits;
    heads-long = length-set_word s.field_heads (key_bucket b k) (suc n) (omega (arith, key_bucket-lt b k (omega arith), v.shaped.field_heads));
    few = w.space;
    held = w.text_space;
    table = push-table s.header.used s.texts s.field_rows s.field_heads b n k a l i new_row v.field_table;
    fields = pushed-fields;
    total = pushed-total;
  })

  own_at : (place ≡ key rows n / 65536) × (slot ≡ key rows n % 65536)
  own_at = slot_key-only (key rows n) place slot slot-few own_key

  own-field : field_at more n ≡ filled i (part s.texts a l)
  unfolding field_at
  own-field = rw (info-push_row s.field_rows n k p a l i fits checksum, text-push_row s.field_rows n k p a l i fits s.texts new_row.at-fits new_row.len-fits)

  pub push-slot : SlotChanged s rows heads (suc n) (s.header.held + l) place w.place_in slot (filled i (part s.texts a l))
  push-slot = record {
    own = rw (← own_at.0, ← own_at.1) at (slot_by-after push-valid n (omega arith)) ∙ own-field;
    others = λ g q hg hq ne. slot_by-agrees s more n g q old-key (λ e h _. old-field e h)
        ∙ slot_by-other push-valid n (omega arith) g q hg hq (λ e. ne (e.0 ∙ sym own_at.0, e.1 ∙ sym own_at.1));
  }

  pub push-content : content_of more ≡ with_field (content_of s) place slot (filled i (part s.texts a l))
  push-content = one-slot s rows heads (suc n) (s.header.held + l) place w.place_in slot (filled i (part s.texts a l)) w.slot-in push-slot

-- ---- changing the name and checksum of a row

-- the name of a field counts among the bytes held
pub len-held : {s : Store} → Valid s → (e : ℕ) → e < s.header.fields → len s.field_rows e ≤ s.header.held
unfolding text_sum
len-held {s} v e h = omega (arith, sum_below-at (len s.field_rows) s.header.fields e h, v.total)

module _ {s : Store} (v : Valid s) (e a l i : ℕ) (w : NewName s e a l) (checksum : Is32 i) where
  abbrev renamed_rows : List ℕ
  renamed_rows = set_text s.field_rows e a l i

  abbrev pub renamed-held : ℕ
  renamed-held = s.header.held - len s.field_rows e + l

  abbrev renamed : Store
  renamed = with_fields s renamed_rows s.field_heads s.header.fields renamed-held

  row_fits : 24 * e + 24 ≤ length s.field_rows
  row_fits = omega (arith, w.row, v.header.fields, v.shaped.field_rows)

  at_small : a < 2 ^ 32
  at_small = omega (arith, w.placed.within, v.header.used, v.header.tops.text)

  len-small : l < 2 ^ 32
  len-small = omega (arith, w.placed.within, v.header.used, v.header.tops.text)

  pub same_key : (j : ℕ) → key s.field_rows j ≡ key renamed_rows j
  same_key j = sym (key-set_text s.field_rows e a l i row_fits j)

  renamed-table : ValidTable s.header.used s.texts renamed_rows s.field_heads (Layout.field_buckets s.header.allowed) s.header.fields
  renamed-table = set-table s.header.used s.texts s.field_rows s.field_heads (Layout.field_buckets s.header.allowed) s.header.fields e a l i w.row (omega (arith, v.header.fields, v.shaped.field_rows)) at_small len-small w.placed v.field_table

  renamed-fields : (j : ℕ) → j < s.header.fields → ValidSlotKey s (key renamed_rows j) × Is32 (info renamed_rows j)
  renamed-fields j h = (
    rw (same_key j) at (v.fields j h).0,
    by_equal j e
        (λ q. rw (q, info-set_text s.field_rows e a l i row_fits checksum) checksum)
        (λ q. rw (info-set_text-other s.field_rows e a l i row_fits j q) (v.fields j h).1),
  )

  renamed-total : other_text s + sum_below (len renamed_rows) s.header.fields ≡ renamed-held
  unfolding text_sum
  renamed-total =
      let others : (j : ℕ) → j < s.header.fields → (j ≢ e) → len s.field_rows j ≡ len renamed_rows j = λ j h ne. sym (len-set_text-other s.field_rows e a l i row_fits j ne) in
      let moved = sum_below-set (len s.field_rows) (len renamed_rows) s.header.fields e w.row others in
      omega (arith, moved, len-held v e w.row, len-set_text s.field_rows e a l i row_fits len-small, v.total)

  pub rename-valid : Valid renamed
  rename-valid = fields-valid v renamed_rows s.field_heads s.header.fields renamed-held (record {
    rows_long = length-set_text s.field_rows e a l i row_fits;
    heads-long = refl;
    few = v.header.fields;
    held = w.text_space;
    table = renamed-table;
    fields = renamed-fields;
    total = renamed-total;
  })

  abbrev its-place : ℕ
  its-place = key s.field_rows e / 65536

  abbrev its-slot : ℕ
  its-slot = key s.field_rows e % 65536

  renamed-field : field_at renamed e ≡ filled i (part s.texts a l)
  unfolding field_at text
  renamed-field = rw (info-set_text s.field_rows e a l i row_fits checksum, at-set_text s.field_rows e a l i row_fits at_small, len-set_text s.field_rows e a l i row_fits len-small)

  other-field : (j : ℕ) → j ≢ e → field_at s j ≡ field_at renamed j
  unfolding field_at text
  other-field j ne = rw (info-set_text-other s.field_rows e a l i row_fits j ne, at-set_text-other s.field_rows e a l i row_fits j ne, len-set_text-other s.field_rows e a l i row_fits j ne)

  rename-slot : SlotChanged s renamed_rows s.field_heads s.header.fields renamed-held its-place (v.fields e w.row).0.place its-slot (filled i (part s.texts a l))
  rename-slot = record {
    own = rw (same_key e) (slot_by-row rename-valid e w.row) ∙ renamed-field;
    others = λ g q hg hq ne. slot_by-agrees s renamed s.header.fields g q (λ j _. same_key j) (λ j _ has. other-field j (λ z.
        ne (slot_key-only (key s.field_rows e) g q (omega (arith, hq, (v.groups g hg).1)) (ap (key s.field_rows) (sym z) ∙ has))));
  }

  pub rename-content : content_of renamed ≡ with_field (content_of s) its-place its-slot (filled i (part s.texts a l))
  rename-content = one-slot s renamed_rows s.field_heads s.header.fields renamed-held its-place (v.fields e w.row).0.place its-slot (filled i (part s.texts a l)) (v.fields e w.row).0.slot rename-slot
