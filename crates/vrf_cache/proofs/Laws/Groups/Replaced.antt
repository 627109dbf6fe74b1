-- `add_export_group` where only the index is found: the group is replaced, fields gone. Used by the proofs of `group_text` and
-- `replace_at`.
use Rattle.std.specs.Prelude.{◌≡◌, List, [], ◌∷◌, set, replicate, Err}
use Rattle.std.proofs.Math.Path.{refl, sym, ap, ap₂}
use Rattle.std.proofs.Common.{◌∙◌, add-one, add-zero, arith, le-ltb}
use Prim.Native.Nat.{ℕ, zero, suc, ◌+◌, ◌-◌, ◌^◌, ◌<◌, ◌≤◌}
use Rattle.std.proofs.Math.ListN.{length, get_or}
use Rattle.std.proofs.Math.Option.{Option, none}
use Rattle.vrf_bitio.specs.declared.Refusal.{Refusal}
use Rattle.vrf_words.specs.Words.{part}
use Rattle.vrf_model.specs.Book.{Slot, empty, filled, Group, Allowances, Content, sum, slot_fields, slot_text, group_fields, group_text}
use Rattle.vrf_model.specs.Lookup.{place_or, index_place, slot_name, slot_at}
use Rattle.vrf_model.specs.Setting.{schema_step, replaced_step, with_groups, new_group}
use Rattle.vrf_model.proofs.Laws.Held.{sum-none}
use Rattle.vrf_table.specs.declared.TextSpan.{TextSpan}
use Rattle.vrf_store.specs.UpTo.{sum_below}
use Rattle.vrf_store.specs.Store.{allowances_of, header_of, store_of}
use Rattle.vrf_store.specs.Inner.WellFormed.{WellFormed}
use Rattle.vrf_store.specs.Inner.Stepped.{held, Stepped}
use Rattle.vrf_store.specs.Inner.Fields.{emptied, with_group}
use Rattle.vrf_store.specs.Inner.Counters.{CountersStepped, replaced_alone}
use Rattle.vrf_store.specs.Inner.Groups.{OldGroup, Emptied}
use Rattle.vrf_store.proofs.Laws.Memory.UpTo.{sum_below-ext, sum_below-le}
use Rattle.vrf_store.proofs.Laws.Counters.{counted-replacing}
use Rattle.vrf_store.proofs.Laws.Groups.Replaced.{stepped-as}
use Rattle.vrf_cache.specs.Inner.Taken.{Taken, NotTaken}
use Rattle.vrf_cache.specs.Inner.Passed.{passed_by, passes_by, FitsBy}
use Rattle.vrf_cache.specs.Inner.Groups.{no_group, group_at, path_bytes, repath, GroupRequest, PathFits, PathWritten, replacing}
use Rattle.vrf_cache.proofs.Laws.Taken.{then, counted-then}
use Rattle.vrf_cache.proofs.Laws.Passed.{HeldCounts, counts-group-set}
use Rattle.vrf_cache.proofs.Laws.Keeping.{allows, kept, full}
use Rattle.vrf_cache.proofs.Laws.Numbers.{allowed, counts, Numbers, numbers}
use Rattle.vrf_cache.proofs.Laws.Groups.Held.{at_place, group-set, index_kept, set-over, listed, texts-held, fields-held, path-bytes, changed-counts, changed-allowed}
use Rattle.vrf_cache.proofs.Laws.Groups.Steps.{new-fields, new-text, old-group}

-- ---- the length of a group's texts

name-text : (s : Slot) → length (slot_name s) ≡ slot_text s
unfolding slot_name slot_text
name-text empty = refl
name-text (filled c n) = refl

-- the length of the names of its first n slots
abbrev names : Content → ℕ → ℕ → ℕ
names c e n = sum_below (λ q. length (slot_name (slot_at c.groups e q))) n

-- the length of its path and of these names: what the loop has counted after n slots
abbrev pub text_up_to : Content → ℕ → ℕ → ℕ
text_up_to c e n = path_bytes c e + names c e n

pub text-first : (c : Content) (e : ℕ) {path : List ℕ} → path ≡ place_or (λ (g : Group). g.path) [] c.groups e → length path ≡ text_up_to c e 0
unfolding sum_below
text-first c e p = ap length p ∙ omega arith

pub text-next : (c : Content) (e n : ℕ) {t : ℕ} {name : List ℕ} → t ≡ text_up_to c e n → name ≡ slot_name (slot_at c.groups e n) → t + length name ≡ text_up_to c e (n + 1)
unfolding sum_below
text-next c e n p q = omega (arith, p, ap length q, ap (names c e) (add-one n))

sum_below-first : (f : ℕ → ℕ) (n : ℕ) → sum_below f (suc n) ≡ f 0 + sum_below (λ q. f (suc q)) n
unfolding sum_below
sum_below-first f zero = omega arith
sum_below-first f (suc n) = omega (arith, sum_below-first f n)

sum-places : {A : Type 0} (w : A → ℕ) (d : A) (l : List A) → sum w l ≡ sum_below (λ q. w (get_or l q d)) (length l)
unfolding sum sum_below
sum-places w d [] = refl
sum-places w d (x ∷ l) = omega (arith, sum-places w d l, sum_below-first (λ q. w (get_or (x ∷ l) q d)) (length l))

abbrev slot_count : Content → ℕ → ℕ
slot_count c e = place_or (λ (g : Group). length g.slots) 0 c.groups e

module _ {m : List ℕ} (good : WellFormed m) {e : ℕ} (known : e < (header_of m).groups) where
  names-all : names (held m) e (slot_count (held m) e) ≡ sum slot_text (group_at (held m) e).slots
  unfolding slot_at
  names-all =
      let l = (group_at (held m) e).slots in
      let name : (q : ℕ) → length (slot_name (slot_at (held m).groups e q)) ≡ slot_text (get_or l q empty) = λ q. name-text (slot_at (held m).groups e q) ∙ ap slot_text (at_place (held m) e (listed good known) (λ (g : Group). get_or g.slots q empty) empty) in
      rw (at_place (held m) e (listed good known) (λ (g : Group). length g.slots) 0)
      (sum_below-ext (λ q. length (slot_name (slot_at (held m).groups e q))) (λ q. slot_text (get_or l q empty)) (length l) (λ q h. name q) ∙ sym (sum-places slot_text empty l))

  pub text-all : {n t : ℕ} → t ≡ text_up_to (held m) e n → n ≡ slot_count (held m) e → t ≡ group_text (group_at (held m) e)
  unfolding group_text
  text-all p q = p ∙ ap (text_up_to (held m) e) q ∙ ap₂ ◌+◌ (path-bytes good known) names-all

  -- these texts are part of what is held, so their sum is below 2^32
  pub text-fits : {n t : ℕ} {name : List ℕ} → t ≡ text_up_to (held m) e n → name ≡ slot_name (slot_at (held m).groups e n) → n < slot_count (held m) e → t + length name < 2 ^ 32
  text-fits {n} p q h =
      let header = good.valid.header in
      omega (arith, text-next (held m) e n p q, text-all {n = slot_count (held m) e} refl refl, texts-held good known, header.held, header.tops.text, sum_below-le (λ i. length (slot_name (slot_at (held m).groups e i))) (n + 1) (slot_count (held m) e) (omega (arith, h)))

-- ---- replacing the group

-- the slots of an emptied group are empty
none-there : (n i : ℕ) → get_or (replicate n empty) i empty ≡ empty
none-there zero i = refl
none-there (suc n) zero = refl
none-there (suc n) (suc i) = none-there n i

-- with fewer fields than are held, the lowest allowance passed is the same
fewer-fields : (b : Allowances) (guids groups fields fewer text : ℕ) → fewer ≤ fields → fields ≤ b.fields → passed_by b guids groups fields text ≡ passed_by b guids groups fewer text
unfolding passed_by
fewer-fields b guids groups fields fewer text h k = rw (le-ltb _ _ k, le-ltb b.fields fewer (omega (arith, h, k)))

-- w is the allowance that the new group would pass in place of group e
module _ {m path : List ℕ} {e index slots : ℕ} {w : Option ℕ} (asked : GroupRequest m path e index slots) (passes : w ≡ passes_by m 0 0 0 (group_text (group_at (held m) e)) (length path)) where
  q : w ≡ passed_by (allowances_of m) (header_of m).guids (header_of m).groups (header_of m).fields ((header_of m).held - group_text (group_at (held m) e) + length path)
  q = rw (add-zero (header_of m).guids, add-zero (header_of m).groups, add-zero (header_of m).fields) at passes

  abbrev own : Group
  own = group_at (held m) e

  abbrev new : Group
  new = new_group path index slots

  abbrev c : Content
  c = with_groups (held m) (set (held m).groups e new)

  abbrev fewer : ℕ
  fewer = (header_of m).fields - group_fields own

  there : e < length (held m).groups
  there = listed asked.good asked.known

  replaced-counts : HeldCounts c (header_of m).guids (header_of m).groups fewer ((header_of m).held - group_text own + length path)
  replaced-counts = counts-group-set (held m) (counts asked.good) e new no_group there fewer _
      (omega (arith, new-fields path index slots, fields-held asked.good asked.known))
      (omega (arith, new-text path index slots, texts-held asked.good asked.known))

  replaced-allowed : c.allowed ≡ allowances_of m
  unfolding with_groups
  replaced-allowed = allowed m

  outcome : w ≡ passed_by (allowances_of m) (header_of m).guids (header_of m).groups fewer ((header_of m).held - group_text own + length path)
  outcome = q ∙ fewer-fields (allowances_of m) (header_of m).guids (header_of m).groups (header_of m).fields fewer _ (omega arith) asked.good.valid.header.fields

  pub replace-full : {m' : List ℕ} → {r : Refusal} → FitsBy w (Err r) → m' ≡ m → NotTaken (replacing (held m) e new) r m m'
  replace-full = full replaced-counts replaced-allowed outcome e replaced_step

  module _ (z : w ≡ none) {m₁ : List ℕ} (d : Stepped m m₁ (with_group (held m) e emptied)) where
    own-now : group_at (held m₁) e ≡ emptied own
    own-now = ap (λ (x : Content). group_at x e) d.content ∙ group-set (held m) e there emptied

    dropped-counts : HeldCounts (with_group (held m) e emptied) (header_of m).guids (header_of m).groups fewer ((header_of m).held - group_text own + length own.path)
    unfolding group_fields group_text slot_fields slot_text
    dropped-counts = changed-counts asked.good asked.known emptied
        (omega (arith, sum-none slot_fields {a = empty} (length own.slots) refl, fields-held asked.good asked.known))
        (omega (arith, sum-none slot_text {a = empty} (length own.slots) refl, texts-held asked.good asked.known))

    n : Numbers m₁ (with_group (held m) e emptied).allowed (header_of m).guids (header_of m).groups fewer ((header_of m).held - group_text own + length own.path)
    n = numbers d.good d.content dropped-counts

    known-now : e < (header_of m₁).groups
    known-now = omega (arith, n.groups-are, asked.known)

    asked-now : GroupRequest m₁ path e index slots
    asked-now = record {
      good = d.good;
      is_text = asked.is_text;
      known = known-now;
      free = rw (ap (λ (x : Content). index_place index x.groups) d.content ∙ index_kept (held m) e there emptied index refl) asked.free;
      handles = asked.handles;
    }

    pub replace-fits : PathFits m₁ e (length path)
    replace-fits = record {
      good = d.good;
      known = known-now;
      space = omega (arith, n.text-is, path-bytes d.good known-now, ap (λ (g : Group). length g.path) own-now, (allows replaced-counts replaced-allowed outcome z).text-fits, ap (λ (a : Allowances). a.text) (n.allowed-are ∙ changed-allowed asked.good asked.known emptied));
    }

    module _ {m₂ : List ℕ} {span : TextSpan} (g : PathWritten m₁ path m₂ e span) where
      abbrev s : Stepped m₁ m₂ (with_group (held m₁) e (repath g.freed.old))
      s = g.freed.stepped

      bare : Emptied (held m₂) e
      unfolding slot_at
      bare p =
          let at : e < length (held m₂).groups = listed s.good (old-group asked-now g).known in
          at_place (held m₂) e at (λ (x : Group). get_or x.slots p empty) empty
          ∙ ap (λ (x : Group). get_or x.slots p empty) (ap (λ (x : Content). group_at x e) s.content ∙ group-set (held m₁) e (listed d.good known-now) (repath g.freed.old))
          ∙ ap (λ (x : Group). get_or x.slots p empty) own-now
          ∙ none-there (length own.slots) p

      pub replace-old : OldGroup m₂ e index span.at span.len slots × Emptied (held m₂) e
      replace-old = (old-group asked-now g, bare)

      pub replace-taken : {m₃ m₄ m₅ : List ℕ} → Stepped m₂ m₃ (with_groups (held m₂) (set (held m₂).groups e (new_group (part (store_of m₂).texts span.at span.len) index slots))) → CountersStepped m₃ m₄ schema_step → CountersStepped m₄ m₅ replaced_alone → Taken (replacing (held m) e new) e m m₅
      replace-taken t k l =
          let over = set-over (held m₁) e (listed d.good known-now) (repath g.freed.old) new ∙ ap (λ (x : Content). with_groups x (set x.groups e new)) d.content ∙ set-over (held m) e there emptied new in
          kept replaced-counts replaced-allowed outcome e replaced_step z (counted-then (then d (then s (stepped-as (rw (s.content, g.text) at t) over))) (counted-replacing k l))
