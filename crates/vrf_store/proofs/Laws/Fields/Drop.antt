-- Laws for `drop_fields`: one pass over the rows, which moves each row of another group to the end of the rows kept so far.
use Rattle.std.specs.Prelude.{◌≡◌, ℕ, zero, suc, ◌+◌, ◌-◌, ◌*◌, ◌/◌, ◌%◌, ◌^◌, ◌<◌, ◌≤◌, ◌≢◌, List, ◌++◌, length, take, replicate, ◌==◌}
use Rattle.std.proofs.Math.Path.{refl, sym, ap}
use Rattle.std.proofs.Common.{◌∙◌, append-nil, not-suc-le-zero, zero-add, drop_at}
use Rattle.std.proofs.Math.Option.{Option, none, some}
use Rattle.std.proofs.Math.Nat.{add-zero}
use Rattle.std.proofs.Math.Numerals.{add-one}
use native.Mathlib.Omega.{arith}
use Rattle.std.proofs.Math.ListN.{length-replicate}
use Rattle.std.proofs.Math.Seq.{drop-length, take_at, take_all}
use borrow.Author.Tests.{eqb-true, eqb-false, eq-eqb, ne_eqb}
use Rattle.vrf_bitio.specs.Pasted.{pasted}
use Rattle.vrf_bitio.proofs.Laws.Cases.{by_cond, clash}
use Rattle.vrf_words.specs.Words.{word, part}
use Rattle.vrf_words.specs.Inner.Words.{set_word}
use Rattle.vrf_words.proofs.Laws.Words.{word-part, word-zeros, word-set_word-same, word-set_word-other}
use Rattle.vrf_model.specs.Book.{empty, filled}
use Rattle.vrf_table.specs.Chain.{walk, last_below}
use Rattle.vrf_table.specs.Table.{key, at, len, info, text, key_bucket, key_start, find_key}
use Rattle.vrf_table.proofs.Laws.Chain.{by_equal}
use Rattle.vrf_table.proofs.Laws.Table.{key_bucket-lt}
use Rattle.vrf_store.specs.UpTo.{sum_below}
use Rattle.vrf_store.specs.Store.{Store, field_at, or_empty, slot_key, slot_by, group_by, content_of}
use Rattle.vrf_store.specs.Check.{text_sum}
use Rattle.vrf_store.specs.Inner.Valid.{Valid}
use Rattle.vrf_store.specs.Inner.Memory.{push_row, pushed}
use Rattle.vrf_store.specs.Inner.Fields.{with_group, NewField, Pass, pass_of, row_dropped, row_kept, pass_row, headless, pass_rows, emptied}
use Rattle.vrf_store.proofs.Laws.Memory.UpTo.{length-up_to, up_to-replicate, sum_below-le}
use Rattle.vrf_store.proofs.Laws.Memory.Rows.{key-push_row-other, at-push_row-other, len-push_row-other, info-push_row-other}
use Rattle.vrf_store.proofs.Laws.Check.Accepted.{slot_key-of, slot_by-other, slot_by-before, slot_by-after}
use Rattle.vrf_store.proofs.Laws.Fields.Changes.{with_fields, other_text, fields-valid, one-group, SlotChanged, push-valid, push-slot}

-- ---- one row in code: dropped or kept

module _ (t : List ℕ) (cap place e kept gone : ℕ) {k l : ℕ} (ek : k ≡ key t e) (el : l ≡ len t e) where
  pub dropped-row : k / 65536 ≡ place → pass_of t kept (gone + l) ≡ pass_row cap place e (pass_of t kept gone)
  unfolding pass_row
  dropped-row z = rw (← ek, ← el, eq-eqb (k / 65536) place z)

  pub kept_row : {a i : ℕ} {t' : List ℕ} → k / 65536 ≢ place → a ≡ at t e → i ≡ info t e → t' ≡ pushed t cap (4 * cap + 1) kept k a l i → pass_of t' (kept + 1) gone ≡ pass_row cap place e (pass_of t kept gone)
  unfolding pass_row
  kept_row z ea ei et = rw (← ek, ← el, ← ea, ← ei, ne_eqb (k / 65536) place z, et, add-one kept)

-- the loop invariant after e rows: t₀ is the table before the loop, t the table now
pub record Passing (cap place : ℕ) (t₀ t : List ℕ) (e kept gone : ℕ) : Type 0 where
  pub state : pass_of t kept gone ≡ pass_rows cap place t₀ e
  pub few : kept ≤ e
  pub small : gone ≤ 2 ^ 32 * e

pub pass-start : (cap place : ℕ) (t : List ℕ) → Passing cap place t t 0 0 0
unfolding pass_rows
pass-start cap place t = record { state = refl; few = omega arith; small = omega arith }

pub pass_step : {cap place e kept gone kept' gone' : ℕ} {t₀ t t' : List ℕ} → Passing cap place t₀ t e kept gone → (pass_of t' kept' gone' ≡ pass_row cap place e (pass_of t kept gone)) × (kept' ≤ e + 1) × (gone' ≤ 2 ^ 32 * (e + 1)) → Passing cap place t₀ t' (e + 1) kept' gone'
unfolding pass_rows
pass_step {cap} {place} {e} p h = record { state = rw (add-one e) (h.0 ∙ ap (pass_row cap place e) p.state); few = h.1; small = h.2 }

-- row j is unchanged, except for its link
pub record SameRow (r r' : List ℕ) (j : ℕ) : Type 0 where
  pub key : key r j ≡ key r' j
  pub at : at r j ≡ at r' j
  pub len : len r j ≡ len r' j
  pub info : info r j ≡ info r' j

same_then : {r r' r'' : List ℕ} {j : ℕ} → SameRow r r' j → SameRow r' r'' j → SameRow r r'' j
same_then s t = record { key = s.key ∙ t.key; at = s.at ∙ t.at; len = s.len ∙ t.len; info = s.info ∙ t.info }

-- ---- the rows and the heads in the memory of a table

module _ (cap : ℕ) where
  abbrev pub rows_of : List ℕ → List ℕ
  rows_of t = part t 0 (24 * cap)

  abbrev pub heads_of : List ℕ → List ℕ
  heads_of t = part t (24 * cap) (4 * (4 * cap + 1))

  module _ (r heads : List ℕ) (lr : length r ≡ 24 * cap) where
    rows-of : rows_of (r ++ heads) ≡ r
    unfolding part
    rows-of = take_at r heads (24 * cap) lr

    heads-of : length heads ≡ 4 * (4 * cap + 1) → heads_of (r ++ heads) ≡ heads
    unfolding part
    heads-of lh = ap (take (4 * (4 * cap + 1))) (drop_at r heads (24 * cap) lr) ∙ take_all (4 * (4 * cap + 1)) heads (omega (arith, lh))

  pub headless-is : (t : List ℕ) → length t ≡ 24 * cap + 4 * (4 * cap + 1) → headless cap t ≡ rows_of t ++ replicate (4 * (4 * cap + 1)) 0
  unfolding pasted part
  headless-is t long =
      let i : 4 * (6 * cap) ≡ 24 * cap = omega arith in
      let all : 24 * cap + length {A = ℕ} (replicate (4 * (4 * cap + 1)) 0) ≡ length t = omega (arith, long, length-replicate {A = ℕ} (4 * (4 * cap + 1)) 0) in
      rw (i, all, drop-length t, append-nil)

  -- row e of the rows is row e of the table
  module _ (t : List ℕ) (e : ℕ) (h : e < cap) where
    row_word : (i : ℕ) → i < 6 → word (rows_of t) (6 * e + i) ≡ word t (6 * e + i)
    row_word i k = word-part t 0 (24 * cap) (6 * e + i) (omega (arith, h, k)) ∙ rw zero-add

    in_table : SameRow (rows_of t) t e
    unfolding key at len info
    in_table =
        let low : word (rows_of t) (6 * e) ≡ word t (6 * e) = simp add-zero at (row_word 0 (omega arith)) in
        record { key = rw (low, row_word 1 (omega arith)); at = row_word 3 (omega arith); len = row_word 4 (omega arith); info = row_word 5 (omega arith) }

-- ---- the state after e rows

abbrev pub cap : Store → ℕ
cap s = s.header.allowed.fields

-- the store whose fields are the rows kept so far
abbrev pub pass_store : Store → Pass → ℕ → Store
pass_store s p total = with_fields s (rows_of (cap s) p.table) (heads_of (cap s) p.table) p.kept total

pub record KeptRowsAre (s : Store) (place e : ℕ) (p : Pass) : Type 0 where
  pub few : p.kept ≤ e
  -- the bytes of all texts, without the names dropped and without the rows not passed yet
  pub total : ℕ
  pub sum : total + p.gone ≡ other_text s + sum_below (len s.field_rows) e
  pub valid : Valid (pass_store s p total)
  pub heads : (j : ℕ) → j < 4 * cap s + 1 → word (heads_of (cap s) p.table) j ≤ p.kept
  pub rest : (j : ℕ) → e ≤ j → SameRow s.field_rows (rows_of (cap s) p.table) j
  pub others : (g q : ℕ) → g < s.header.groups → q < info s.group_rows g → g ≢ place → slot_by s e g q ≡ slot_by (pass_store s p total) p.kept g q
  pub own : (q : ℕ) → q < info s.group_rows place → slot_by (pass_store s p total) p.kept place q ≡ empty

-- the table before the pass: the rows, and empty heads
abbrev cleared : Store → List ℕ
cleared s = s.field_rows ++ replicate (4 * (4 * cap s + 1)) 0

module _ {s : Store} (v : Valid s) (place : ℕ) where
  zeros-long : length {A = ℕ} (replicate (4 * (4 * cap s + 1)) 0) ≡ length s.field_heads
  zeros-long = length-replicate (4 * (4 * cap s + 1)) 0 ∙ sym v.shaped.field_heads

  start-valid : (heads : List ℕ) → length heads ≡ length s.field_heads → Valid (with_fields s s.field_rows heads 0 (other_text s))
  unfolding walk last_below sum_below text_sum
  start-valid heads long = fields-valid v s.field_rows heads 0 (other_text s) (record {
    rows_long = refl;
    heads-long = long;
    few = omega arith;
    held = omega (arith, v.total, v.header.held);
    table = record { texts = λ e h. absurd (not-suc-le-zero h); distinct = λ i j h. absurd (not-suc-le-zero h); latest = λ y. refl };
    fields = λ e h. absurd (not-suc-le-zero h);
    total = omega arith;
  })

  start : KeptRowsAre s place 0 (pass_rows (cap s) place (cleared s) 0)
  unfolding pass_rows slot_by last_below or_empty sum_below
  start =
      let rows = rows-of (cap s) s.field_rows (replicate (4 * (4 * cap s + 1)) 0) v.shaped.field_rows in
      let heads = heads-of (cap s) s.field_rows (replicate (4 * (4 * cap s + 1)) 0) v.shaped.field_rows (length-replicate (4 * (4 * cap s + 1)) 0) in
      record {
        few = omega arith;
        total = other_text s;
        sum = omega arith;
        valid = rw (rows, heads) (start-valid (replicate (4 * (4 * cap s + 1)) 0) zeros-long);
        heads = λ j h. rw (heads, word-zeros) (omega arith);
        rest = λ j h. rw rows (record { key = refl; at = refl; len = refl; info = refl });
        others = λ g q hg hq ne. refl;
        own = λ q h. refl;
      }

-- ---- one more row

-- an empty slot has no row
no_row : (s : Store) (o : Option ℕ) → or_empty (field_at s) o ≡ empty → o ≡ none
unfolding or_empty field_at
no_row s none h = refl
no_row s (some e) h = clash cc

module _ {s : Store} (v : Valid s) (place e : ℕ) (h : e < s.header.fields) (p : Pass) (w : KeptRowsAre s place e p) where
  abbrev r₀ : List ℕ
  r₀ = s.field_rows

  in_cap : e < cap s
  in_cap = omega (arith, h, v.header.fields)

  -- row e has not been written yet
  its : SameRow r₀ p.table e
  its = same_then (w.rest e (omega arith)) (in_table (cap s) p.table e in_cap)

  dropped-on : key r₀ e / 65536 ≡ place → KeptRowsAre s place (suc e) (row_dropped e p)
  unfolding sum_below
  dropped-on own = record {
    few = omega (arith, w.few);
    total = w.total;
    sum = omega (arith, w.sum, its.len);
    valid = w.valid;
    heads = w.heads;
    rest = λ j k. w.rest j (omega (arith, k));
    others = λ g q hg hq ne. sym (slot_by-other v e h g q hg hq (λ z. ne (z.0 ∙ own))) ∙ w.others g q hg hq ne;
    own = w.own;
  }

  -- a row of another group is added to the rows kept
  module _ (ne : key r₀ e / 65536 ≢ place) where
    abbrev current : Store
    current = pass_store s p w.total

    abbrev g : ℕ
    g = key r₀ e / 65536

    abbrev q : ℕ
    q = key r₀ e % 65536

    abbrev b : ℕ
    b = 4 * cap s + 1

    abbrev rows : List ℕ
    rows = rows_of (cap s) p.table

    abbrev heads : List ℕ
    heads = heads_of (cap s) p.table

    abbrev rows' : List ℕ
    rows' = push_row rows p.kept (slot_key g q) (key_start heads b (slot_key g q)) (at r₀ e) (len r₀ e) (info r₀ e)

    abbrev heads' : List ℕ
    heads' = set_word heads (key_bucket b (slot_key g q)) (suc p.kept)

    in_place : g < s.header.groups
    in_place = (v.fields e h).0.place

    in-slots : q < info s.group_rows g
    in-slots = (v.fields e h).0.slot

    new-field : NewField current g q (at r₀ e) (len r₀ e)
    unfolding find_key slot_by sum_below text_sum text
    new-field =
        let most = sum_below-le (len r₀) (suc e) s.header.fields h in
        record {
          place_in = in_place;
          slot-in = in-slots;
          space = omega (arith, w.few, in_cap);
          text_space = omega (arith, w.sum, most, v.total, v.header.held);
          new = w.valid.field_table.latest (slot_key g q) ∙ no_row current _ (sym (w.others g q in_place in-slots ne) ∙ slot_by-before v e h);
          placed = record { within = (v.field_table.texts e h).within; is_text = (v.field_table.texts e h).is_text };
        }

    head-fits : key_start heads b (slot_key g q) < 2 ^ 32
    unfolding key_start
    head-fits = omega (arith, w.heads (key_bucket b (slot_key g q)) (key_bucket-lt b (slot_key g q) (omega arith)), w.few, in_cap, v.header.tops.fields)

    pushed-valid : Valid (with_fields s rows' heads' (suc p.kept) (w.total + len r₀ e))
    pushed-valid = push-valid w.valid g q (at r₀ e) (len r₀ e) (info r₀ e) new-field (v.fields e h).1 head-fits

    table_is : (row_kept (cap s) e p).table ≡ rows' ++ heads'
    unfolding pushed
    table_is = rw (← its.key, ← its.at, ← its.len, ← its.info, slot_key-of (key r₀ e))

    rows-now : rows_of (cap s) (row_kept (cap s) e p).table ≡ rows'
    rows-now = ap (rows_of (cap s)) table_is ∙ rows-of (cap s) rows' heads' pushed-valid.shaped.field_rows

    heads-now : heads_of (cap s) (row_kept (cap s) e p).table ≡ heads'
    heads-now = ap (heads_of (cap s)) table_is ∙ heads-of (cap s) rows' heads' pushed-valid.shaped.field_rows pushed-valid.shaped.field_heads

    heads-small : (j : ℕ) → j < b → word heads' j ≤ suc p.kept
    heads-small j k =
        let fits : 4 * key_bucket b (slot_key g q) + 4 ≤ length heads = omega (arith, key_bucket-lt b (slot_key g q) (omega arith), w.valid.shaped.field_heads) in
        by_equal j (key_bucket b (slot_key g q))
        (λ z. rw (z, word-set_word-same heads (key_bucket b (slot_key g q)) (suc p.kept) fits (omega (arith, w.few, in_cap, v.header.tops.fields))) (omega arith))
        (λ z. rw (word-set_word-other heads (key_bucket b (slot_key g q)) (suc p.kept) j fits z) (omega (arith, w.heads j k)))

    rest-same : (j : ℕ) → e < j → SameRow r₀ rows' j
    rest-same j k =
        let fits : 24 * p.kept + 24 ≤ length rows = omega (arith, w.few, in_cap, w.valid.shaped.field_rows) in
        let other : j ≢ p.kept = λ z. omega (arith, z, k, w.few) in
        same_then (w.rest j (omega (arith, k))) (record {
          key = sym (key-push_row-other rows p.kept (slot_key g q) (key_start heads b (slot_key g q)) (at r₀ e) (len r₀ e) (info r₀ e) fits j other);
          at = sym (at-push_row-other rows p.kept (slot_key g q) (key_start heads b (slot_key g q)) (at r₀ e) (len r₀ e) (info r₀ e) fits j other);
          len = sym (len-push_row-other rows p.kept (slot_key g q) (key_start heads b (slot_key g q)) (at r₀ e) (len r₀ e) (info r₀ e) fits j other);
          info = sym (info-push_row-other rows p.kept (slot_key g q) (key_start heads b (slot_key g q)) (at r₀ e) (len r₀ e) (info r₀ e) fits j other);
        })

    abbrev current' : Store
    current' = with_fields s rows' heads' (suc p.kept) (w.total + len r₀ e)

    slots : SlotChanged current rows' heads' (suc p.kept) (w.total + len r₀ e) g new-field.place_in q (filled (info r₀ e) (part s.texts (at r₀ e) (len r₀ e)))
    slots = push-slot w.valid g q (at r₀ e) (len r₀ e) (info r₀ e) new-field (v.fields e h).1 head-fits

    others_same : (i j : ℕ) → i < s.header.groups → j < info s.group_rows i → i ≢ place → slot_by s (suc e) i j ≡ slot_by current' (suc p.kept) i j
    unfolding field_at text
    others_same i j hi hj other = by_equal i g
        (λ zi. by_equal j q
        (λ zj. rw (zi, zj) (slot_by-after v e h ∙ sym slots.own))
        (λ nj. elsewhere (λ z. nj z.1)))
        (λ ni. elsewhere (λ z. ni z.0))
      where
        elsewhere : ((i ≡ g) × (j ≡ q) → ⊥) → slot_by s (suc e) i j ≡ slot_by current' (suc p.kept) i j
        elsewhere apart = sym (slot_by-other v e h i j hi hj apart) ∙ w.others i j hi hj other ∙ slots.others i j hi hj apart

    stays_on : place < s.header.groups → KeptRowsAre s place (suc e) (row_kept (cap s) e p)
    unfolding sum_below
    stays_on in-groups = record {
      few = omega (arith, w.few);
      total = w.total + len r₀ e;
      sum = omega (arith, w.sum);
      valid = rw (rows-now, heads-now) pushed-valid;
      heads = rw heads-now heads-small;
      rest = rw rows-now rest-same;
      others = rw (rows-now, heads-now) others_same;
      own = rw (rows-now, heads-now) (λ j k. sym (slots.others place j in-groups k (λ z. ne (sym z.0))) ∙ w.own j k);
    }

-- ---- all rows

-- the state after the pass over all fields
abbrev pub dropped : Store → ℕ → Pass
dropped s place = pass_rows (cap s) place (cleared s) s.header.fields

-- the store with the fields that are left
abbrev pub drop_store : Store → ℕ → Store
drop_store s place = pass_store s (dropped s place) (s.header.held - (dropped s place).gone)

module _ {s : Store} (v : Valid s) (place : ℕ) (in-groups : place < s.header.groups) where
  step : (e : ℕ) → e < s.header.fields → (p : Pass) → KeptRowsAre s place e p → KeptRowsAre s place (suc e) (pass_row (cap s) place e p)
  unfolding pass_row
  step e h p w = by_cond (KeptRowsAre s place (suc e)) (key p.table e / 65536 == place)
      (λ z. dropped-on v place e h p w (rw (its v place e h p w).key (eqb-true (key p.table e / 65536) place z)))
      (λ z. stays_on v place e h p w (λ y. eqb-false (key p.table e / 65536) place z (rw (its v place e h p w).key at y)) in-groups)

  kept-all : (e : ℕ) → e ≤ s.header.fields → KeptRowsAre s place e (pass_rows (cap s) place (cleared s) e)
  unfolding pass_rows
  kept-all zero h = start v place
  kept-all (suc e) h = step e h (pass_rows (cap s) place (cleared s) e) (kept-all e (omega (arith, h)))

  end : KeptRowsAre s place s.header.fields (dropped s place)
  end = kept-all s.header.fields (omega arith)

  pub gone_held : (dropped s place).gone ≤ s.header.held
  unfolding text_sum
  gone_held = omega (arith, end.sum, v.total)

  -- the bytes held after the pass
  end-total : end.total ≡ s.header.held - (dropped s place).gone
  unfolding text_sum
  end-total = omega (arith, end.sum, v.total)

  pub drop-valid : Valid (drop_store s place)
  drop-valid = rw (sym end-total) end.valid

  own-emptied : group_by (pass_store s (dropped s place) end.total) (dropped s place).kept place ≡ emptied (group_by s s.header.fields place)
  unfolding group_by
  own-emptied = rw (length-up_to (slot_by s s.header.fields place) (info s.group_rows place), up_to-replicate (slot_by (pass_store s (dropped s place) end.total) (dropped s place).kept place) (info s.group_rows place) empty end.own)

  pub drop-content : content_of (drop_store s place) ≡ with_group (content_of s) place emptied
  drop-content = rw (sym end-total) (one-group s _ _ _ _ place in-groups emptied own-emptied end.others)
