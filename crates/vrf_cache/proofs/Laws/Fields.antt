-- `set_field_on_group` on a well-formed memory: what the writes of each case require, and that they make the model's step. Used by the
-- proofs of `fields`.
use Rattle.std.specs.Prelude.{◌≡◌, Bool, true, false, List, [], ℕ, ◌+◌, ◌-◌, ◌<◌, ◌≤◌, Err}
use Rattle.std.proofs.Math.Path.{refl, ap}
use Rattle.std.proofs.Common.{sym, ◌∙◌, add-zero, arith, lt-ltb, le-ltb}
use Rattle.std.proofs.Math.Option.{Option, none, some}
use Rattle.std.proofs.Math.ListN.{length, get_or}
use Rattle.vrf_bitio.specs.declared.Refusal.{Refusal}
use Rattle.vrf_bitio.specs.Bits.{Bytes}
use Rattle.vrf_bitio.proofs.Laws.Cases.{clash}
use Rattle.vrf_path.specs.Text.{same}
use Rattle.vrf_path.proofs.Laws.Text.{same_true}
use Rattle.vrf_words.specs.Words.{part}
use Rattle.vrf_words.proofs.Laws.Words.{length_part}
use Rattle.vrf_model.specs.Book.{empty, filled, Group, Allowances, Content, no_increment, slot_fields, slot_text}
use Rattle.vrf_model.specs.Lookup.{index_place, slot_at}
use Rattle.vrf_model.specs.Setting.{Step, done, dropped_step, renamed_step, with_groups, renames, set_field_at, set_field}
use Rattle.vrf_table.specs.Table.{key, at, len, info, text}
use Rattle.vrf_table.specs.declared.TextSpan.{TextSpan}
use Rattle.vrf_store.specs.Store.{allowances_of, header_of, store_of, field_at, or_empty, slot_key, slot_by, group_by}
use Rattle.vrf_store.specs.Inner.WellFormed.{WellFormed}
use Rattle.vrf_store.specs.Inner.Stepped.{held, Stepped}
use Rattle.vrf_store.specs.Inner.Fields.{field_found, with_field, NewField, NewName, Renamed}
use Rattle.vrf_store.specs.Inner.Counters.{CountersStepped}
use Rattle.vrf_store.proofs.Laws.Memory.UpTo.{length-up_to, get_d-up_to}
use Rattle.vrf_store.proofs.Laws.Check.Accepted.{slot_key-only}
use Rattle.vrf_store.proofs.Laws.Lookups.{group-at, slot-found}
use Rattle.vrf_store.proofs.Laws.Fields.Row.{field-known}
use Rattle.vrf_store.proofs.Laws.Fields.Changes.{slot_by-row, len-held}
use Rattle.vrf_cache.specs.Inner.Taken.{HoldsContent, Taken, NotTaken}
use Rattle.vrf_cache.specs.Inner.Passed.{passed_by, passes_by, FitsBy}
use Rattle.vrf_cache.specs.Inner.Texts.{TextWritten}
use Rattle.vrf_cache.specs.Inner.Slots.{slots_at}
use Rattle.vrf_cache.specs.Inner.Fields.{setting, FieldToAdd, place_of, slot_of, name_at, FieldToChange}
use Rattle.vrf_cache.proofs.Laws.Taken.{unmoved, then, same_then, counted-then}
use Rattle.vrf_cache.proofs.Laws.Passed.{within, HeldCounts}
use Rattle.vrf_cache.proofs.Laws.Keeping.{CountsAllowed, allows, kept, full}
use Rattle.vrf_cache.proofs.Laws.Numbers.{allowed, counts, Numbers, numbers}
use Rattle.vrf_cache.proofs.Laws.Texts.{put-placed, none-placed}
use Rattle.vrf_cache.proofs.Laws.Groups.Slots.{slot-place, slot_counts, set-again}

-- no counter changes if no name changes
still : {m m' : List ℕ} {c : Content} → WellFormed m → Bytes m → Stepped m m' c → HoldsContent m m' c (renamed_step 0)
unfolding renamed_step no_increment
still good b s = record { good = s.good; content = s.content; counters = s.counters ∙ (unmoved good b).counters; long = s.long; literals = s.literals }

-- ---- the slots of a well-formed memory

module _ {m : List ℕ} (good : WellFormed m) (place : ℕ) where
  slots-are : place < (header_of m).groups → slots_at (held m).groups place ≡ info (store_of m).group_rows place
  unfolding group_by
  slots-are h = group-at (store_of m) 0 place (λ (g : Group). length g.slots) h ∙ length-up_to (slot_by (store_of m) (header_of m).fields place) (info (store_of m).group_rows place)

  module _ {slot : ℕ} (h : slot < slots_at (held m).groups place) where
    place_in : place < (header_of m).groups
    place_in = omega (arith, slot-place (held m).groups place h, (counts good).groups-are)

    slot-in : slot < info (store_of m).group_rows place
    slot-in = omega (arith, h, slots-are place_in)

    slot-row : slot_at (held m).groups place slot ≡ or_empty (field_at (store_of m)) (field_found (store_of m) (slot_key place slot))
    slot-row = slot-found good.valid place slot place_in slot-in

    -- a slot without a row is empty, and an empty slot has no row
    pub slot-free : field_found (store_of m) (slot_key place slot) ≡ none → slot_at (held m).groups place slot ≡ empty
    unfolding or_empty
    slot-free q = slot-row ∙ ap (or_empty (field_at (store_of m))) q

    no_row : slot_at (held m).groups place slot ≡ empty → field_found (store_of m) (slot_key place slot) ≡ none
    unfolding or_empty field_at
    no_row q = go (field_found (store_of m) (slot_key place slot)) (sym slot-row ∙ q)
      where
        go : (o : Option ℕ) → or_empty (field_at (store_of m)) o ≡ empty → o ≡ none
        go none z = refl
        go (some e) z = clash (cc)

-- ---- one more field

-- w is the allowance that one more field would pass
module _ {m name : List ℕ} {place slot : ℕ} (checksum : ℕ) {w : Option ℕ} (asked : FieldToAdd m name place slot) (passes : w ≡ passes_by m 0 0 1 0 (length name)) where
  e : w ≡ passed_by (allowances_of m) (header_of m).guids (header_of m).groups ((header_of m).fields + 1) ((header_of m).held - 0 + length name)
  e = rw (add-zero (header_of m).guids, add-zero (header_of m).groups) at passes

  abbrev added : Content
  added = with_field (held m) place slot (filled checksum name)

  added-counts : HeldCounts added (header_of m).guids (header_of m).groups ((header_of m).fields + 1) ((header_of m).held - 0 + length name)
  unfolding slot_fields slot_text
  added-counts = slot_counts (held m) place asked.slot-in (counts asked.good) (filled checksum name) _ _ (omega (arith, ap slot_fields asked.free)) (omega (arith, ap slot_text asked.free))

  added-allowed : added.allowed ≡ allowances_of m
  unfolding with_groups
  added-allowed = allowed m

  unnamed : renames (slot_at (held m).groups place slot) name ≡ 0
  unfolding renames
  unnamed = rw asked.free

  pub new-full : {m' : List ℕ} → {r : Refusal} → FitsBy w (Err r) → m' ≡ m → NotTaken (setting (held m) place slot checksum name) r m m'
  new-full = full added-counts added-allowed e true (renamed_step (renames (slot_at (held m).groups place slot) name))

  module _ (z : w ≡ none) where
    new-allows : CountsAllowed (allowances_of m) (header_of m).guids (header_of m).groups ((header_of m).fields + 1) ((header_of m).held - 0 + length name)
    new-allows = allows added-counts added-allowed e z

    pub new-space : WellFormed m × ((header_of m).held + length name ≤ (allowances_of m).text)
    new-space = (asked.good, omega (arith, new-allows.text-fits))

    module _ {m₁ : List ℕ} {span : TextSpan} (p : TextWritten m name m₁ span) where
      pub new-field : NewField (store_of m₁) place slot span.at span.len
      new-field =
          let good = p.stepped.good in
          let n = numbers good p.stepped.content (counts asked.good) in
          let top = n.allowed-are ∙ allowed m in
          let there : slot < slots_at (held m₁).groups place = rw p.stepped.content asked.slot-in in
          record {
            place_in = place_in good place there;
            slot-in = slot-in good place there;
            space = omega (arith, ap (λ (x : Allowances). x.fields) top, n.fields-are, new-allows.fields_fit);
            text_space = omega (arith, ap (λ (x : Allowances). x.text) top, n.text-is, new-allows.text-fits, p.long);
            new = no_row good place there (rw p.stepped.content asked.free);
            placed = put-placed p asked.is_text;
          }

      pub new-taken : {m₂ : List ℕ} → Bytes m → Stepped m₁ m₂ (with_field (held m₁) place slot (filled checksum (part (store_of m₁).texts span.at span.len))) → Taken (setting (held m) place slot checksum name) true m m₂
      new-taken b s = rw unnamed (kept added-counts added-allowed e true (renamed_step 0) z (still asked.good b (then p.stepped (rw (p.stepped.content, p.text) at s))))

-- ---- a new checksum and name of a field

module _ {m : List ℕ} (good : WellFormed m) {e : ℕ} (known : e < (header_of m).fields) where
  -- its name is part of the texts held
  pub name-held : length (name_at m e) ≤ (header_of m).held
  unfolding text
  name-held =
      let v = good.valid in
      omega (arith, len-held v e known, length_part (store_of m).texts (at (store_of m).field_rows e) (len (store_of m).field_rows e) (omega (arith, (v.field_table.texts e known).within, v.header.used, v.shaped.texts)))

  -- its name can be released
  pub release-path : NewName (store_of m) e 0 0
  release-path = record { row = known; text_space = omega (arith, good.valid.header.held); placed = none-placed (header_of m).used (store_of m).texts }

  -- its name can stay at its position
  module _ {a l : ℕ} (ea : a ≡ at (store_of m).field_rows e) (el : l ≡ len (store_of m).field_rows e) where
    pub name-stays : NewName (store_of m) e a l
    unfolding text
    name-stays =
        let its = good.valid.field_table.texts e known in
        record {
          row = known;
          text_space = omega (arith, el, len-held good.valid e known, good.valid.header.held);
          placed = record { within = omega (arith, ea, el, its.within); is_text = rw (ea, el) its.is_text };
        }

    pub name-kept : {m' : List ℕ} (checksum : ℕ) → Renamed m m' e (filled checksum (part (store_of m).texts a l)) → Renamed m m' e (filled checksum (name_at m e))
    unfolding text
    name-kept checksum s = rw (ea, el) at s

  its-slot-in : slot_of m e < slots_at (held m).groups (place_of m e)
  its-slot-in = let its = (good.valid.fields e known).0 in omega (arith, slots-are good (place_of m e) its.place, its.slot)

  its-slot : slot_at (held m).groups (place_of m e) (slot_of m e) ≡ filled (info (store_of m).field_rows e) (name_at m e)
  unfolding slot_at group_by field_at
  its-slot =
      let its = (good.valid.fields e known).0 in
      group-at (store_of m) empty (place_of m e) (λ (g : Group). get_or g.slots (slot_of m e) empty) its.place
      ∙ get_d-up_to (slot_by (store_of m) (header_of m).fields (place_of m e)) (info (store_of m).group_rows (place_of m e)) (slot_of m e) empty its.slot
      ∙ slot_by-row good.valid e known

  -- with a new name only the text bytes change
  named-counts : (checksum : ℕ) (t : List ℕ) → HeldCounts (with_field (held m) (place_of m e) (slot_of m e) (filled checksum t)) (header_of m).guids (header_of m).groups ((header_of m).fields + 0) ((header_of m).held - length (name_at m e) + length t)
  unfolding slot_fields slot_text
  named-counts checksum t = slot_counts (held m) (place_of m e) its-slot-in (counts good) (filled checksum t) _ _ (omega (arith, ap slot_fields its-slot)) (omega (arith, ap slot_text its-slot, name-held))

module _ {m name : List ℕ} {e : ℕ} (checksum : ℕ) (asked : FieldToChange m name e) where
  abbrev named : List ℕ → Content
  named t = with_field (held m) (place_of m e) (slot_of m e) (filled checksum t)

  named-allowed : (t : List ℕ) → (named t).allowed ≡ allowances_of m
  unfolding with_groups
  named-allowed t = allowed m

  abbrev sets : Step Bool
  sets = setting (held m) (place_of m e) (slot_of m e) checksum name

  -- the new name equals the old one
  module _ (agree : same (name_at m e) name ≡ true) where
    -- the content held passes no allowance
    none_passed : none ≡ passed_by (allowances_of m) (header_of m).guids (header_of m).groups ((header_of m).fields + 0) ((header_of m).held - length (name_at m e) + length name)
    none_passed =
        let same_text : (header_of m).held - length (name_at m e) + length name ≡ (header_of m).held = omega (arith, name-held asked.good asked.known, ap length (same_true (name_at m e) name agree)) in
        rw (add-zero (header_of m).fields, same_text) (sym (within asked.good))

    unrenamed : renames (slot_at (held m).groups (place_of m e) (slot_of m e)) name ≡ 0
    unfolding renames
    unrenamed = rw (its-slot asked.good asked.known, agree)

    pub same_taken : {m' : List ℕ} → Bytes m → Renamed m m' e (filled checksum (name_at m e)) → Taken sets true m m'
    same_taken b s = rw unrenamed (kept (named-counts asked.good asked.known checksum name) (named-allowed name) none_passed true (renamed_step 0) refl (still asked.good b (rw (same_true (name_at m e) name agree) at s.stepped)))

  -- w is the allowance that the field would pass with the new name
  module _ {w : Option ℕ} {old : List ℕ} (differ : same (name_at m e) name ≡ false) (o : old ≡ name_at m e) (passes : w ≡ passes_by m 0 0 0 (length old) (length name)) where
    q : w ≡ passed_by (allowances_of m) (header_of m).guids (header_of m).groups ((header_of m).fields + 0) ((header_of m).held - length (name_at m e) + length name)
    q = rw (o, add-zero (header_of m).guids, add-zero (header_of m).groups) at passes

    counted : (t : List ℕ) → HeldCounts (named t) (header_of m).guids (header_of m).groups ((header_of m).fields + 0) ((header_of m).held - length (name_at m e) + length t)
    counted = named-counts asked.good asked.known checksum

    pub other-full : {m' : List ℕ} → {r : Refusal} → FitsBy w (Err r) → m' ≡ m → NotTaken sets r m m'
    other-full = full (counted name) (named-allowed name) q true (renamed_step (renames (slot_at (held m).groups (place_of m e) (slot_of m e)) name))

    -- first the old name is released
    module _ (z : w ≡ none) {m₁ : List ℕ} (s₁ : Renamed m m₁ e (filled checksum (part (store_of m).texts 0 0))) where
      first : Stepped m m₁ (named [])
      unfolding part
      first = s₁.stepped

      abbrev Nameless : List ℕ → Type 0
      Nameless y = Numbers y (named []).allowed (header_of m).guids (header_of m).groups ((header_of m).fields + 0) ((header_of m).held - length (name_at m e) + 0)

      has-space : {y : List ℕ} → Nameless y → (header_of y).held + length name ≤ (allowances_of y).text
      has-space n = omega (arith, ap (λ (x : Allowances). x.text) (n.allowed-are ∙ named-allowed []), n.text-is, (allows (counted name) (named-allowed name) q z).text-fits)

      nameless₁ : Nameless m₁
      nameless₁ = numbers first.good first.content (counted [])

      pub other-space : WellFormed m₁ × ((header_of m₁).held + length name ≤ (allowances_of m₁).text)
      other-space = (first.good, has-space nameless₁)

      module _ {m₂ : List ℕ} {span : TextSpan} (p : TextWritten m₁ name m₂ span) where
        second : Stepped m m₂ (named [])
        second = same_then first p.stepped

        nameless₂ : Nameless m₂
        nameless₂ = numbers second.good second.content (counted [])

        pub other_name : NewName (store_of m₂) e span.at span.len
        other_name = record { row = omega (arith, asked.known, nameless₂.fields-are); text_space = omega (arith, has-space nameless₂, p.long); placed = put-placed p asked.is_text }

        -- row e still has the key of its slot
        same_key : key (store_of m₂).field_rows e ≡ key (store_of m).field_rows e
        same_key = p.keys e (omega (arith, asked.known, nameless₁.fields-are)) ∙ s₁.keys e asked.known

        renamed : renames (slot_at (held m).groups (place_of m e) (slot_of m e)) name ≡ 1
        unfolding renames
        renamed = rw (its-slot asked.good asked.known, differ)

        pub other-taken : {m₃ m₄ : List ℕ} → Renamed m₂ m₃ e (filled checksum (part (store_of m₂).texts span.at span.len)) → CountersStepped m₃ m₄ (renamed_step 1) → Taken sets true m m₄
        other-taken s k =
            let third = rw (second.content, p.text, same_key, set-again (held m) (place_of m e) (its-slot-in asked.good asked.known) (filled checksum []) (filled checksum name)) at s.stepped in
            rw renamed (kept (counted name) (named-allowed name) q true (renamed_step 1) z (counted-then (then second third) k))

-- ---- placed or dropped

-- a field without a slot is counted as dropped
pub dropped : {m m' : List ℕ} → WellFormed m → CountersStepped m m' dropped_step → Taken (done false (held m) dropped_step) false m m'
dropped {m} good k = record { content = held m; counted = dropped_step; step = refl; holds = counted-then (record { good = good; content = refl; counters = refl; long = refl; literals = refl }) k }

module _ (c : Content) (slot checksum : ℕ) (name : List ℕ) where
  pub set-unknown : (index : ℕ) → index_place index c.groups ≡ none → set_field index slot checksum name c ≡ done false c dropped_step
  unfolding set_field set_field_at
  set-unknown index o = rw o

  pub set_known : (index : ℕ) {place : ℕ} → index_place index c.groups ≡ some place → set_field index slot checksum name c ≡ set_field_at slot checksum name c (some place)
  unfolding set_field
  set_known index o = rw o

  module _ (place : ℕ) where
    pub set_past : slots_at c.groups place ≤ slot → set_field_at slot checksum name c (some place) ≡ done false c dropped_step
    unfolding set_field_at
    set_past h = rw (le-ltb slot (slots_at c.groups place) h)

    pub set-within : slot < slots_at c.groups place → set_field_at slot checksum name c (some place) ≡ setting c place slot checksum name
    unfolding set_field_at
    set-within h = rw (lt-ltb slot (slots_at c.groups place) h)

-- the slot is filled: it has row e
module _ {m : List ℕ} (good : WellFormed m) (place : ℕ) {slot e : ℕ} (h : slot < slots_at (held m).groups place) (q : field_found (store_of m) (slot_key place slot) ≡ some e) where
  pub row-known : e < (header_of m).fields
  row-known = (field-known good.valid place slot q).0

  pub set-row : (checksum : ℕ) (name : List ℕ) → set_field_at slot checksum name (held m) (some place) ≡ setting (held m) (place_of m e) (slot_of m e) checksum name
  set-row checksum name =
      let few : slot < 65536 = omega (arith, slot-in good place h, (good.valid.groups place (place_in good place h)).1) in
      let its = slot_key-only (key (store_of m).field_rows e) place slot few (field-known good.valid place slot q).1 in
      rw (← its.0, ← its.1) (set-within (held m) slot checksum name place h)
