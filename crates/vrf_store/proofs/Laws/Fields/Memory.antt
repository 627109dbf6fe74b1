-- Laws for `push_field`, `set_field_row` and `drop_fields` as they write memory: they lend the table to a function, then write the counts.
use Rattle.std.specs.Prelude.{◌≡◌, ℕ, suc, ◌+◌, ◌-◌, ◌*◌, ◌^◌, ◌<◌, ◌≤◌, List, ◌++◌, length, refl}
use Rattle.std.proofs.Common.{sym, ap, ◌∙◌}
use Rattle.std.proofs.Math.Numerals.{add-one}
use native.Mathlib.Omega.{arith}
use Rattle.vrf_bitio.specs.Bits.{Bytes}
use Rattle.vrf_bitio.specs.Pasted.{pasted}
use Rattle.vrf_words.specs.Words.{part}
use Rattle.vrf_words.specs.Inner.Words.{set_word}
use Rattle.vrf_words.proofs.Laws.Words.{bytes-part, word_bound, length_part}
use Rattle.vrf_model.specs.Book.{filled, Content}
use Rattle.vrf_model.specs.Lawful.{Is32}
use Rattle.vrf_table.specs.Table.{key, len, key_start}
use Rattle.vrf_table.specs.Inner.Table.{set_text}
use Rattle.vrf_store.specs.Layout
use Rattle.vrf_store.specs.Store.{Store, allowances_of, header_of, store_of, words, slot_key, content_of}
use Rattle.vrf_store.specs.Inner.Valid.{Valid}
use Rattle.vrf_store.specs.Inner.WellFormed.{WellFormed}
use Rattle.vrf_store.specs.Inner.Memory.{pushed}
use Rattle.vrf_store.specs.Inner.Stepped.{held, Stepped}
use Rattle.vrf_store.specs.Inner.Fields.{with_group, NewField, NewName, with_field, Pass, pass_of, pass_rows, headless, emptied, Renamed}
use Rattle.vrf_store.proofs.Laws.Memory.Written.{unwritten, stepped, wrote-fields, wrote-held, wrote-field_table}
use Rattle.vrf_store.proofs.Laws.Memory.Tables.{lent_to, Lent, lent, table_end, pushed-words, text-words, halves, lent_part, rows_words}
use Rattle.vrf_store.proofs.Laws.Fields.Changes.{with_fields, push-valid, push-content, rename-valid, rename-content, renamed-held, same_key}
use Rattle.vrf_store.proofs.Laws.Fields.Drop.{headless-is, dropped, gone_held, drop-valid, drop-content}

-- the rows of the fields, and the heads after them
abbrev field_table : List ℕ → List ℕ
field_table m = part m (4 * Layout.field_rows_at (allowances_of m)) (24 * (allowances_of m).fields + 4 * Layout.field_buckets (allowances_of m))

module _ {m : List ℕ} (g : WellFormed m) where
  space : 128 ≤ length m
  space = omega (arith, g.enough)

  -- the memory after the table, the field count and the bytes held are written
  table-stepped : (r heads : List ℕ) (n h : ℕ) (t : List ℕ) (c : Content) → t ≡ r ++ heads → Valid (with_fields (store_of m) r heads n h) → content_of (with_fields (store_of m) r heads n h) ≡ c → Stepped m (set_word (set_word (pasted m (4 * Layout.field_rows_at (allowances_of m)) t) 7 n) 8 h) c
  table-stepped r heads n h t c e v q =
      let table = wrote-field_table (unwritten m) g.enough r heads v.shaped.field_rows v.shaped.field_heads in
      let counted = wrote-fields table n (omega (arith, v.header.fields, v.header.tops.fields)) space in
      rw e (stepped g.enough (wrote-held counted h (omega (arith, v.header.held, v.header.tops.text)) space) v q refl)

  -- a head has 32 bits
  head_small : Bytes m → (k : ℕ) → key_start (store_of m).field_heads (Layout.field_buckets (allowances_of m)) k < 2 ^ 32
  unfolding key_start words
  head_small bytes k = word_bound _ _ (bytes-part m _ _ bytes)

  table_fits : 4 * Layout.field_rows_at (allowances_of m) + 24 * (allowances_of m).fields + 4 * Layout.field_buckets (allowances_of m) ≤ length m
  table_fits = omega (arith, g.enough)

  pushed-stepped : Bytes m → (place slot a l i : ℕ) → NewField (store_of m) place slot a l → Is32 i
      → Stepped m (set_word (set_word (pasted m (4 * Layout.field_rows_at (allowances_of m)) (pushed (field_table m) (allowances_of m).fields (Layout.field_buckets (allowances_of m)) (header_of m).fields (slot_key place slot) a l i)) 7 (suc (header_of m).fields)) 8 ((header_of m).held + l)) (with_field (held m) place slot (filled i (part (store_of m).texts a l)))
  pushed-stepped bytes place slot a l i w small =
      let head = head_small bytes (slot_key place slot) in
      table-stepped _ _ _ _ _ _ (pushed-words m (Layout.field_rows_at (allowances_of m)) (allowances_of m).fields (Layout.field_buckets (allowances_of m)) table_fits (header_of m).fields (slot_key place slot) a l i)
      (push-valid g.valid place slot a l i w small head) (push-content g.valid place slot a l i w small head)

  renamed-stepped : (e a l i : ℕ) → NewName (store_of m) e a l → Is32 i → Renamed m (set_word (pasted m (4 * Layout.field_rows_at (allowances_of m)) (set_text (field_table m) e a l i)) 8 ((header_of m).held - len (store_of m).field_rows e + l)) e (filled i (part (store_of m).texts a l))
  renamed-stepped e a l i w small =
      let few : e < (allowances_of m).fields = omega (arith, w.row, g.valid.header.fields) in
      let v = rename-valid g.valid e a l i w small in
      let table = wrote-field_table (unwritten m) g.enough (set_text (store_of m).field_rows e a l i) (store_of m).field_heads v.shaped.field_rows v.shaped.field_heads in
      let all = wrote-held table (renamed-held g.valid e a l i w small) (omega (arith, v.header.held, v.header.tops.text)) space in
      rw (text-words m (Layout.field_rows_at (allowances_of m)) (allowances_of m).fields (Layout.field_buckets (allowances_of m)) table_fits e few a l i) (record {
        stepped = stepped g.enough all v (rename-content g.valid e a l i w small) refl;
        keys = λ j h. ap (λ (s : Store). key s.field_rows j) all.store ∙ sym (same_key g.valid e a l i w small j);
      })

-- ---- lending the table

module _ {m : List ℕ} (g : WellFormed m) {cap from : ℕ} {f : List ℕ → List ℕ} {t : List ℕ} (ec : cap ≡ (allowances_of m).fields) (ef : from ≡ 4 * Layout.field_rows_at (allowances_of m)) (table : Lent m from (table_end from cap (4 * cap + 1)) f t) where
  -- the memory after the call that was lent the table
  came-back : lent_to m from (table_end from cap (4 * cap + 1)) t ≡ pasted m (4 * Layout.field_rows_at (allowances_of m)) (f (field_table m))
  came-back = lent (24 * cap + 4 * (4 * cap + 1)) table (omega arith) (omega (arith, g.enough, ec, ef)) ∙ rw (ec, ef)

-- ---- adding a field

module _ {m : List ℕ} (g : WellFormed m) (bytes : Bytes m) (place slot a l i : ℕ) (w : NewField (store_of m) place slot a l) (small : Is32 i) where
  pub push-field : {cap from n total : ℕ} {t m₁ m' : List ℕ} → cap ≡ (allowances_of m).fields → from ≡ 4 * Layout.field_rows_at (allowances_of m) → n ≡ (header_of m).fields → total ≡ (header_of m).held
      → Lent m from (table_end from cap (4 * cap + 1)) (λ x. pushed x cap (4 * cap + 1) n (65536 * place + slot) a l i) t → m₁ ≡ set_word (lent_to m from (table_end from cap (4 * cap + 1)) t) 7 (n + 1) → m' ≡ set_word m₁ 8 (total + l)
      → Stepped m m' (with_field (held m) place slot (filled i (part (store_of m).texts a l)))
  unfolding slot_key
  push-field {n = n} ec ef en et table e₁ e₂ = rw (e₂, e₁, add-one n, came-back g ec ef table, ec, en, et) (pushed-stepped g bytes place slot a l i w small)

-- ---- changing a name and checksum

module _ {m : List ℕ} (g : WellFormed m) (e a l i : ℕ) (w : NewName (store_of m) e a l) (small : Is32 i) where
  pub set-field-row : {cap from total : ℕ} {t m' : List ℕ} → cap ≡ (allowances_of m).fields → from ≡ 4 * Layout.field_rows_at (allowances_of m) → total ≡ (header_of m).held - len (store_of m).field_rows e + l
      → Lent m from (table_end from cap (4 * cap + 1)) (λ x. set_text x e a l i) t → m' ≡ set_word (lent_to m from (table_end from cap (4 * cap + 1)) t) 8 total
      → Renamed m m' e (filled i (part (store_of m).texts a l))
  set-field-row ec ef et table e₁ = rw (e₁, came-back g ec ef table, et) (renamed-stepped g e a l i w small)

-- ---- dropping all fields of a group

module _ {m : List ℕ} (g : WellFormed m) (place : ℕ) (in-groups : place < (header_of m).groups) {cap from n rows gone : ℕ} {t : List ℕ} (ec : cap ≡ (allowances_of m).fields)
    (ef : from ≡ 4 * Layout.field_rows_at (allowances_of m)) (en : n ≡ (header_of m).fields) (long : length t ≡ length (lent_part m from (table_end from cap (4 * cap + 1))))
    (ep : pass_of t rows gone ≡ pass_rows cap place (headless cap (lent_part m from (table_end from cap (4 * cap + 1)))) n) where
  lent_is : lent_part m from (table_end from cap (4 * cap + 1)) ≡ field_table m
  unfolding part
  lent_is = let size : table_end from cap (4 * cap + 1) - from ≡ 24 * cap + 4 * (4 * cap + 1) = omega arith in rw (size, ec, ef)

  table-long : length (field_table m) ≡ 24 * (allowances_of m).fields + 4 * Layout.field_buckets (allowances_of m)
  table-long = length_part m _ _ (omega (arith, table_fits g))

  end_is : pass_of t rows gone ≡ dropped (store_of m) place
  end_is = ep ∙ rw (lent_is, ec, en, headless-is (allowances_of m).fields (field_table m) table-long, rows_words m (Layout.field_rows_at (allowances_of m)) (allowances_of m).fields (Layout.field_buckets (allowances_of m)) (table_fits g))

  pub dropped-held : gone ≤ (header_of m).held
  dropped-held = rw (ap (λ (p : Pass). p.gone) end_is) (gone_held g.valid place in-groups)

  pub drop-fields : {total : ℕ} {m₁ m' : List ℕ} → total ≡ (header_of m).held → m₁ ≡ set_word (lent_to m from (table_end from cap (4 * cap + 1)) t) 7 rows → m' ≡ set_word m₁ 8 (total - gone) → Stepped m m' (with_group (held m) place emptied)
  drop-fields et e₁ e₂ =
      let back = came-back g {f = λ _. t} ec ef (record { long = long; made = refl }) in
      let is-t = ap (λ (p : Pass). p.table) end_is in
      let whole = halves (dropped (store_of m) place).table (allowances_of m).fields (Layout.field_buckets (allowances_of m)) (ap length (sym is-t) ∙ long ∙ ap length lent_is ∙ table-long) in
      rw (e₂, e₁, back, et, is-t, ap (λ (p : Pass). p.kept) end_is, ap (λ (p : Pass). p.gone) end_is)
      (table-stepped g _ _ _ _ _ _ whole (drop-valid g.valid place in-groups) (drop-content g.valid place in-groups))
