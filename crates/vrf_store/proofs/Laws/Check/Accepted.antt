-- A valid store holds a lawful book (document 01, The book), and its totals are those of the book. Every call that changes a book uses
-- this.
use Rattle.std.specs.Prelude.{◌≡◌, ℕ, zero, suc, ◌+◌, ◌/◌, ◌%◌, ◌<◌, ◌≤◌, List, length, ◌≢◌}
use Rattle.std.proofs.Math.Path.{refl, ap, ap₂, fun_ext}
use Rattle.std.proofs.Common.{◌∙◌, arith}
use Rattle.std.proofs.Math.Option.{Option, none, some}
use borrow.Author.Tests.{eq-eqb, ne_eqb}
use Rattle.vrf_words.proofs.Laws.Words.{length_part}
use Rattle.vrf_model.specs.Book.{Slot, empty, sum, slot_fields, slot_text, guid_text, group_fields, group_text, held_fields, held_text}
use Rattle.vrf_model.specs.Lawful.{Each, nil, cons, Distinct, LawfulGuid, LawfulSlot, LawfulGroup, WithinAllowances, Lawful}
use Rattle.vrf_model.proofs.Laws.Each.{each_append}
use Rattle.vrf_model.proofs.Laws.Places.{distinct_append}
use Rattle.vrf_table.specs.Chain.{last_below}
use Rattle.vrf_table.specs.Table.{key, at, len, info, text, key_hit}
use Rattle.vrf_table.proofs.Laws.Chain.{Passes, last_below-passes, last_below-none}
use Rattle.vrf_store.specs.UpTo.{up_to, sum_below}
use Rattle.vrf_store.specs.Store.{Store, guid_at, field_at, or_empty, slot_key, slot_by, group_by, content_of}
use Rattle.vrf_store.specs.Check.{text_sum}
use Rattle.vrf_store.specs.Inner.Valid.{ValidTable, Valid}
use Rattle.vrf_store.proofs.Laws.Memory.UpTo.{length-up_to, sum_below-ext, sum_below-set, sum-up_to}

-- ---- lists and sums over the numbers below n

module _ {A : Type 0} where
  pub each-up_to : {P : A → Type 0} (f : ℕ → A) (n : ℕ) → ((e : ℕ) → e < n → P (f e)) → Each P (up_to f n)
  unfolding up_to
  each-up_to f zero h = nil
  each-up_to f (suc n) h = each_append (each-up_to f n (λ e k. h e (omega (arith, k)))) (cons (h n (omega arith)) nil)

  pub distinct-up_to : (number : A → ℕ) (f : ℕ → A) (n : ℕ) → ((i j : ℕ) → i < n → j < n → number (f i) ≡ number (f j) → i ≡ j) → Distinct number (up_to f n)
  unfolding up_to
  distinct-up_to number f zero h = tt
  distinct-up_to number f (suc n) h =
      distinct_append number (f n) (distinct-up_to number f n (λ i j a b. h i j (omega (arith, a)) (omega (arith, b))))
      (each-up_to f n (λ e k. ne_eqb (number (f e)) (number (f n)) (λ q. omega (arith, k, h e n (omega (arith, k)) (omega arith) q))))

pub sum_below-nil : (f : ℕ → ℕ) (n : ℕ) → ((e : ℕ) → f e ≡ 0) → sum_below f n ≡ 0
unfolding sum_below
sum_below-nil f zero h = refl
sum_below-nil f (suc n) h = rw (sum_below-nil f n h, h n)

pub sum_below-one : (n : ℕ) → sum_below (λ e. 1) n ≡ n
unfolding sum_below
sum_below-one zero = refl
sum_below-one (suc n) = rw (sum_below-one n) (omega arith)

pub sum_below-plus : (f g : ℕ → ℕ) (n : ℕ) → sum_below (λ e. f e + g e) n ≡ sum_below f n + sum_below g n
unfolding sum_below
sum_below-plus f g zero = refl
sum_below-plus f g (suc n) = rw (sum_below-plus f g n) (omega arith)

-- ---- one more field

-- a key is the key of its own place and slot
pub slot_key-of : (k : ℕ) → slot_key (k / 65536) (k % 65536) ≡ k
unfolding slot_key
slot_key-of k = omega arith

-- and of no other place and slot
pub slot_key-only : (k place slot : ℕ) → slot < 65536 → k ≡ slot_key place slot → (place ≡ k / 65536) × (slot ≡ k % 65536)
unfolding slot_key
slot_key-only k place slot h e = omega arith

-- the place and the slot of field n
abbrev place : Store → ℕ → ℕ
place s n = key s.field_rows n / 65536

abbrev slot : Store → ℕ → ℕ
slot s n = key s.field_rows n % 65536

module _ {s : Store} (v : Valid s) (n : ℕ) (h : n < s.header.fields) where
  -- one more field changes no slot except its own
  pub slot_by-other : (g q : ℕ) → g < s.header.groups → q < info s.group_rows g → ((g ≡ place s n) × (q ≡ slot s n) → ⊥) → slot_by s n g q ≡ slot_by s (suc n) g q
  unfolding slot_by last_below key_hit
  slot_by-other g q k l ne = rw (ne_eqb (key s.field_rows n) (slot_key g q) (λ e. ne (slot_key-only (key s.field_rows n) g q (omega (arith, (v.groups g k).1)) e)))

  -- its slot was empty before, because its key is new
  pub slot_by-before : slot_by s n (place s n) (slot s n) ≡ empty
  unfolding slot_by key_hit or_empty
  slot_by-before = rw (slot_key-of (key s.field_rows n))
      (ap (or_empty (field_at s)) (last_below-none _ n (λ j k. ne_eqb (key s.field_rows j) (key s.field_rows n) (λ e.
      omega (arith, k, v.field_table.distinct j n (omega (arith, k)) h e)))))

  -- its slot holds the field afterwards
  pub slot_by-after : slot_by s (suc n) (place s n) (slot s n) ≡ field_at s n
  unfolding slot_by last_below key_hit or_empty
  slot_by-after = rw (slot_key-of (key s.field_rows n), eq-eqb (key s.field_rows n) (key s.field_rows n) refl)

-- ---- totals over all slots, where w gives each slot a weight

module _ {s : Store} (v : Valid s) (w : Slot → ℕ) (light : w empty ≡ 0) where
  -- the total weight of the slots of group g, as the first n fields fill them
  abbrev load : ℕ → ℕ → ℕ
  load n g = sum_below (λ q. w (slot_by s n g q)) (info s.group_rows g)

  load_nil : (g : ℕ) → load 0 g ≡ 0
  unfolding slot_by last_below or_empty
  load_nil g = sum_below-nil _ (info s.group_rows g) (λ q. light)

  -- one more field adds its weight to one group and changes no other
  module _ (n : ℕ) (h : n < s.header.fields) where
    load-other : (g : ℕ) → g < s.header.groups → (g ≢ place s n) → load n g ≡ load (suc n) g
    load-other g k ne = sum_below-ext _ _ (info s.group_rows g) (λ q l. ap w (slot_by-other v n h g q k l (λ e. ne e.0)))

    load-own : load (suc n) (place s n) ≡ load n (place s n) + w (field_at s n)
    load-own =
        let good = (v.fields n h).0 in
        let others : (q : ℕ) → q < info s.group_rows (place s n) → (q ≢ slot s n) → w (slot_by s n (place s n) q) ≡ w (slot_by s (suc n) (place s n) q) = λ q l ne. ap w (slot_by-other v n h (place s n) q good.place l (λ e. ne e.1)) in
        let step = sum_below-set _ _ (info s.group_rows (place s n)) (slot s n) good.slot others in
        omega (arith, step, ap w (slot_by-before v n h) ∙ light, ap w (slot_by-after v n h))

  loads : (n : ℕ) → n ≤ s.header.fields → sum_below (load n) s.header.groups ≡ sum_below (λ e. w (field_at s e)) n
  unfolding sum_below
  loads zero h = sum_below-nil (load 0) s.header.groups load_nil
  loads (suc n) h =
      let good = (v.fields n h).0 in
      omega (arith, loads n (omega arith), load-own n h, sum_below-set (load n) (load (suc n)) s.header.groups (place s n) good.place (load-other n h))

  -- the slots of all groups have the same total weight as the fields
  pub held-slots : sum_below (λ g. sum w (group_by s s.header.fields g).slots) s.header.groups ≡ sum_below (λ e. w (field_at s e)) s.header.fields
  unfolding group_by
  held-slots =
      ap (λ (f : ℕ → ℕ). sum_below f s.header.groups) (fun_ext (λ g. sum-up_to w (slot_by s s.header.fields g) (info s.group_rows g)))
      ∙ loads s.header.fields (omega arith)

-- the texts of a table have the lengths that its rows give
texts-length : {used : ℕ} {x r heads : List ℕ} {b n : ℕ} → ValidTable used x r heads b n → used ≤ length x → sum_below (λ e. length (text r x e)) n ≡ sum_below (len r) n
unfolding text
texts-length {x = x} {r = r} {n = n} g space = sum_below-ext _ (len r) n (λ e h. length_part x (at r e) (len r e) (omega (arith, space, (g.texts e h).within)))

module _ {s : Store} (v : Valid s) where
  pub held-fields : held_fields (content_of s) ≡ s.header.fields
  unfolding held_fields content_of group_fields slot_fields field_at
  held-fields =
      sum-up_to group_fields (group_by s s.header.fields) s.header.groups
      ∙ held-slots v slot_fields refl
      ∙ sum_below-one s.header.fields

  pub held-text : held_text (content_of s) ≡ s.header.held
  unfolding held_text content_of guid_text group_text guid_at group_by slot_text field_at text_sum
  held-text =
      let space : s.header.used ≤ length s.texts = omega (arith, v.header.used, v.shaped.texts) in
      let paths : ℕ → ℕ = λ g. length (text s.group_rows s.texts g) in
      let slots : ℕ → ℕ = λ g. sum slot_text (group_by s s.header.fields g).slots in
      let guids = sum-up_to guid_text (guid_at s) s.header.guids ∙ texts-length v.guid_table space in
      let groups = sum-up_to group_text (group_by s s.header.fields) s.header.groups ∙ sum_below-plus paths slots s.header.groups in
      let fields = held-slots v slot_text refl ∙ texts-length v.field_table space in
      ap₂ ◌+◌ guids (groups ∙ ap₂ ◌+◌ (texts-length v.group_table space) fields) ∙ omega (arith, v.total)

-- ---- the rules of a lawful book

module _ {s : Store} (v : Valid s) where
  good-guid : (e : ℕ) → e < s.header.guids → LawfulGuid (guid_at s e)
  unfolding guid_at
  good-guid e h = record { guid = (v.guids e h).0; outer = (v.guids e h).1; path = (v.guid_table.texts e h).is_text }

  -- a slot is empty or holds a field
  good-slot : (g q : ℕ) → LawfulSlot (slot_by s s.header.fields g q)
  unfolding slot_by or_empty field_at
  good-slot g q = go (last_below (key_hit s.field_rows (slot_key g q)) s.header.fields) (last_below-passes _ s.header.fields)
    where
      go : (o : Option ℕ) → Passes (key_hit s.field_rows (slot_key g q)) s.header.fields o → LawfulSlot (or_empty (field_at s) o)
      go none p = tt
      go (some e) p = ((v.fields e p.0).1, (v.field_table.texts e p.0).is_text)

  good-group : (g : ℕ) → g < s.header.groups → LawfulGroup (group_by s s.header.fields g)
  unfolding group_by
  good-group g h = record {
    index = (v.groups g h).0;
    path = (v.group_table.texts g h).is_text;
    few = rw (length-up_to (slot_by s s.header.fields g) (info s.group_rows g)) (v.groups g h).1;
    slots = each-up_to (slot_by s s.header.fields g) (info s.group_rows g) (λ q k. good-slot g q);
  }

  within : WithinAllowances (content_of s)
  unfolding content_of
  within = record {
    guids = rw (length-up_to (guid_at s) s.header.guids) v.header.guids;
    groups = rw (length-up_to (group_by s s.header.fields) s.header.groups) v.header.groups;
    fields = rw (held-fields v) v.header.fields;
    text = rw (held-text v) v.header.held;
  }

  pub valid-lawful : Lawful s.header.allowed (content_of s)
  unfolding content_of guid_at group_by
  valid-lawful = record {
    allowed = refl;
    tops = v.header.tops;
    guids = each-up_to (guid_at s) s.header.guids good-guid;
    guids_distinct = distinct-up_to (λ r. r.guid) (guid_at s) s.header.guids v.guid_table.distinct;
    groups = each-up_to (group_by s s.header.fields) s.header.groups good-group;
    indices_distinct = distinct-up_to (λ g. g.index) (group_by s s.header.fields) s.header.groups v.group_table.distinct;
    within = within;
  }
