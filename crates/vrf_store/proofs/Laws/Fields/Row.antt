-- Laws about the row of a slot and about outers. The lookups, `vrf_cache` and `vrf_writer` use them.
use Rattle.std.specs.Prelude.{◌≡◌, ℕ, zero, suc, ◌/◌, ◌%◌, ◌<◌, cond, List, [], ◌∷◌, ◌==◌}
use Rattle.std.specs.Prelude.{Option as Answer, Some, None}
use Rattle.std.proofs.Math.Path.{refl, sym, ap}
use Rattle.std.proofs.Common.{◌∙◌, arith}
use Rattle.std.proofs.Math.Option.{Option, none, some}
use borrow.Author.Tests.{lt-ltb, le-ltb, eqb-true}
use Rattle.vrf_bitio.proofs.Laws.Cases.{by_order, clash}
use Rattle.vrf_model.specs.Book.{Guid, empty}
use Rattle.vrf_model.specs.Lookup.{place_or, slot_at, outer_of}
use Rattle.vrf_table.specs.Table.{key, link, info, key_hit, key_start, find_key}
use Rattle.vrf_table.specs.Inner.Answers.{entry}
use Rattle.vrf_table.proofs.Laws.Chain.{Passes, walk-passes}
use Rattle.vrf_store.specs.Layout
use Rattle.vrf_store.specs.Store.{Store, field_at, or_empty, slot_key, content_of}
use Rattle.vrf_store.specs.Inner.Valid.{Valid}
use Rattle.vrf_store.specs.Inner.Fields.{field_found, slot_row}
use Rattle.vrf_store.proofs.Laws.Lookups.{slot-found, slot-no-group, slot-past}

module _ {s : Store} (v : Valid s) (place slot : ℕ) where
  -- a field with the key of a slot is in a group that has this slot
  held : slot < 65536 → (e : ℕ) → e < s.header.fields → key s.field_rows e ≡ slot_key place slot → (place < s.header.groups) × (slot < info s.group_rows place)
  unfolding slot_key
  held h e k q =
      let p : key s.field_rows e / 65536 ≡ place = omega (arith, q) in
      let r : key s.field_rows e % 65536 ≡ slot = omega (arith, q) in
      let good = (v.fields e k).0 in
      (rw p at good.place, rw (r, p) at good.slot)

  passes : Passes (key_hit s.field_rows (slot_key place slot)) s.header.fields (field_found s (slot_key place slot))
  unfolding find_key
  passes = walk-passes (key_hit s.field_rows (slot_key place slot)) (link s.field_rows) s.header.fields (key_start s.field_heads (Layout.field_buckets s.header.allowed) (slot_key place slot))

  -- the row that is found has the key of the slot
  pub field-known : {e : ℕ} → field_found s (slot_key place slot) ≡ some e → (e < s.header.fields) × (key s.field_rows e ≡ slot_key place slot)
  unfolding key_hit
  field-known {e} q = let it = rw q at passes in (it.0, eqb-true (key s.field_rows e) (slot_key place slot) it.1)

  no_row : slot < 65536 → ((place < s.header.groups) × (slot < info s.group_rows place) → ⊥) → field_found s (slot_key place slot) ≡ none
  unfolding key_hit
  no_row h out = go (field_found s (slot_key place slot)) passes
    where
      go : (o : Option ℕ) → Passes (key_hit s.field_rows (slot_key place slot)) s.header.fields o → o ≡ none
      go none p = refl
      go (some e) p = absurd (out (held h e p.0 (eqb-true (key s.field_rows e) (slot_key place slot) p.1)))

  slot-row : slot_at (content_of s).groups place slot ≡ or_empty (field_at s) (slot_row s place slot)
  unfolding slot_row or_empty
  slot-row =
      by_order s.header.groups place
      (λ past. slot-no-group s place slot past ∙ none-there (λ h. no_row h (λ k. omega (arith, k.0, past))))
      (λ there. by_order (info s.group_rows place) slot
      (λ past. slot-past s place slot there past ∙ none-there (λ h. no_row h (λ k. omega (arith, k.1, past))))
      (λ within. let low = lt-ltb slot 65536 (omega (arith, within, (v.groups place there).1)) in rw low (slot-found v place slot there within)))
    where
      none-there : (slot < 65536 → field_found s (slot_key place slot) ≡ none) → empty ≡ or_empty (field_at s) (slot_row s place slot)
      none-there miss = by_order 65536 slot
          (λ high. rw (le-ltb slot 65536 high))
          (λ low. rw (lt-ltb slot 65536 low, miss low))

  -- r is the row that was found for the slot. A slot with a row holds its field, and a slot without a row is empty
  module _ {r : Answer ℕ} (er : entry r ≡ slot_row s place slot) where
    pub slot-filled : {e : ℕ} → r ≡ Some e → slot_at (content_of s).groups place slot ≡ field_at s e
    unfolding or_empty
    slot-filled q = slot-row ∙ ap (or_empty (field_at s)) (sym er ∙ ap entry q)

    pub slot-empty : r ≡ None → slot_at (content_of s).groups place slot ≡ empty
    unfolding or_empty
    slot-empty q = slot-row ∙ ap (or_empty (field_at s)) (sym er ∙ ap entry q)

    pub slot-row-below : {e : ℕ} → r ≡ Some e → e < s.header.fields
    unfolding slot_row
    slot-row-below {e} q =
        let there : slot_row s place slot ≡ some e = sym er ∙ ap entry q in
        by_order 65536 slot
        (λ high. clash (let none-there = le-ltb slot 65536 high in cc))
        (λ low. (field-known (rw (lt-ltb slot 65536 low) at there)).0)

-- ---- outers

-- an outer of 0 means none
pub outer-place : (l : List Guid) (i : ℕ) → place_or outer_of none l i ≡ cond (place_or (λ (g : Guid). g.outer) 0 l i == 0) none (some (place_or (λ (g : Guid). g.outer) 0 l i))
unfolding place_or outer_of
outer-place [] i = refl
outer-place (g ∷ l) zero = refl
outer-place (g ∷ l) (suc i) = outer-place l i
