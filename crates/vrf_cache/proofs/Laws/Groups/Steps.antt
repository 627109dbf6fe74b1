-- `add_export_group` on a well-formed memory: what appending, merging and growing require of it, and that they make the model's steps. Used
-- by the proofs of `groups`.
use Rattle.std.specs.Prelude.{◌≡◌, true, ◌&&◌, ℕ, ◌+◌, ◌-◌, ◌<◌, ◌≤◌, eqb, replicate, Err}
use Rattle.std.proofs.Math.Path.{refl, ap, subst}
use Rattle.std.proofs.Common.{sym, ◌∙◌, add-zero, eqb-true}
use mathlib.Core.List.{List, [], append-nil}
use Rattle.std.proofs.Math.Option.{Option, none, some}
use native.Mathlib.Omega.{arith}
use Rattle.std.proofs.Math.ListN.{length}
use Rattle.vrf_bitio.specs.declared.Refusal.{Refusal}
use Rattle.vrf_path.specs.Text.{same}
use Rattle.vrf_path.proofs.Laws.Text.{same_true}
use Rattle.vrf_words.specs.Words.{part}
use Rattle.vrf_model.specs.Book.{empty, Group, Allowances, Content, slot_fields, slot_text, group_fields, group_text}
use Rattle.vrf_model.specs.Lookup.{place_or, index_place}
use Rattle.vrf_model.specs.Setting.{schema_step, with_groups, new_group, grown, merged_group}
use Rattle.vrf_model.proofs.Laws.Held.{sum-append, sum-none}
use Rattle.vrf_table.specs.Chain.{last_below}
use Rattle.vrf_table.specs.Table.{key, key_hit, find_key}
use Rattle.vrf_table.proofs.Laws.Chain.{Passes, last_below-passes}
use Rattle.vrf_table.specs.declared.TextSpan.{TextSpan}
use Rattle.vrf_store.specs.Store.{allowances_of, header_of, store_of, group_by}
use Rattle.vrf_store.specs.Inner.Stepped.{held, Stepped}
use Rattle.vrf_store.specs.Inner.Fields.{with_group}
use Rattle.vrf_store.specs.Inner.Counters.{CountersStepped}
use Rattle.vrf_store.specs.Inner.Groups.{grown_group, Only, OldGroup, NewGroup}
use Rattle.vrf_store.proofs.Laws.Memory.UpTo.{and-true}
use Rattle.vrf_store.proofs.Laws.Lookups.{group-at, index-found}
use Rattle.vrf_store.proofs.Laws.Groups.Replaced.{stepped-as}
use Rattle.vrf_cache.specs.Inner.Taken.{Taken, NotTaken}
use Rattle.vrf_cache.specs.Inner.Passed.{passed_by, passes_by, FitsBy}
use Rattle.vrf_cache.specs.Inner.Texts.{TextWritten}
use Rattle.vrf_cache.specs.Inner.Groups.{group_at, path_bytes, with_new, appending, GroupToAdd, repath, GroupRequest, PathFits, PathReleased, PathWritten, merging}
use Rattle.vrf_cache.proofs.Laws.Taken.{then, same_then, counted-then}
use Rattle.vrf_cache.proofs.Laws.Passed.{within, HeldCounts, counts-group}
use Rattle.vrf_cache.proofs.Laws.Keeping.{CountsAllowed, allows, kept, full}
use Rattle.vrf_cache.proofs.Laws.Numbers.{allowed, counts, numbers}
use Rattle.vrf_cache.proofs.Laws.Texts.{put-placed, none-placed}
use Rattle.vrf_cache.proofs.Laws.Groups.Held.{at_place, same-group, length-with, index_kept, changed-alike, changed-twice, listed, texts-held, path-bytes, path-held, changed-counts}
use Rattle.vrf_cache.proofs.Laws.Groups.Held.{changed-allowed}

-- a new group has no fields and no text but its path
pub new-fields : (path : List ℕ) (index slots : ℕ) → group_fields (new_group path index slots) ≡ 0
unfolding group_fields new_group slot_fields
new-fields path index slots = sum-none slot_fields slots refl

pub new-text : (path : List ℕ) (index slots : ℕ) → group_text (new_group path index slots) ≡ length path
unfolding group_text new_group slot_text
new-text path index slots = omega (arith, sum-none slot_text {a = empty} slots refl)

-- ---- one more group

-- w is the allowance that one more group would pass
module _ {m path : List ℕ} {index slots : ℕ} {w : Option ℕ} (asked : GroupToAdd m path index slots) (passes : w ≡ passes_by m 0 1 0 0 (length path)) where
  e : w ≡ passed_by (allowances_of m) (header_of m).guids ((header_of m).groups + 1) (header_of m).fields ((header_of m).held + length path)
  e = let whole : (header_of m).held - 0 ≡ (header_of m).held = omega arith in rw (add-zero (header_of m).guids, add-zero (header_of m).fields, whole) at passes

  abbrev new : Group
  new = new_group path index slots

  added-counts : HeldCounts (with_new (held m) new) (header_of m).guids ((header_of m).groups + 1) (header_of m).fields ((header_of m).held + length path)
  added-counts = rw (new-text path index slots) at (counts-group (held m) (counts asked.good) new (new-fields path index slots))

  added-allowed : (with_new (held m) new).allowed ≡ allowances_of m
  unfolding with_groups
  added-allowed = allowed m

  pub new-full : {m' : List ℕ} → {r : Refusal} → FitsBy w (Err r) → m' ≡ m → NotTaken (appending (held m) new) r m m'
  new-full = full added-counts added-allowed e (length (held m).groups) schema_step

  module _ (z : w ≡ none) where
    new-allows : CountsAllowed (allowances_of m) (header_of m).guids ((header_of m).groups + 1) (header_of m).fields ((header_of m).held + length path)
    new-allows = allows added-counts added-allowed e z

    pub new-space : (header_of m).held + length path ≤ (allowances_of m).text
    new-space = new-allows.text-fits

    module _ {m₁ : List ℕ} {span : TextSpan} (p : TextWritten m path m₁ span) where
      pub new-group : NewGroup m₁ index span.at span.len slots
      new-group =
          let n = numbers p.stepped.good p.stepped.content (counts asked.good) in
          let groups = ap (λ (x : Allowances). x.groups) (n.allowed-are ∙ allowed m) in
          let text = ap (λ (x : Allowances). x.text) (n.allowed-are ∙ allowed m) in
          record {
            good = p.stepped.good;
            new = ap (λ (c : Content). index_place index c.groups) p.stepped.content ∙ asked.new;
            few = omega (arith, groups, n.groups-are, new-allows.groups-fit);
            placed = put-placed p asked.is_text;
            handles = asked.handles;
            space = omega (arith, text, n.text-is, new-allows.text-fits, p.long);
          }

      pub new-taken : {m₂ m₃ : List ℕ} {n : ℕ} → n ≡ (header_of m).groups → Stepped m₁ m₂ (with_new (held m₁) (new_group (part (store_of m₁).texts span.at span.len) index slots)) → CountersStepped m₂ m₃ schema_step → Taken (appending (held m) new) n m m₃
      new-taken at s k =
          rw (at ∙ sym (counts asked.good).groups-are)
          (kept added-counts added-allowed e (length (held m).groups) schema_step z (counted-then (then p.stepped (rw (p.stepped.content, p.text) at s)) k))

-- ---- a new path of a group

module _ {m : List ℕ} {e n : ℕ} (x : PathFits m e n) where
  -- the path stays, if n more bytes are within allowance 4
  pub still : (header_of m).held + n ≤ (allowances_of m).text → PathReleased m m e n
  still h =
      let own = (group_at (held m) e).path in
      record { old = own; stepped = record { good = x.good; content = sym (same-group (held m) e (listed x.good x.known) (repath own) refl); counters = refl; long = refl; literals = refl }; space = h }

  -- the index of group e is found at group e
  own_index : (o : Option ℕ) → Passes (key_hit (store_of m).group_rows (key (store_of m).group_rows e)) (header_of m).groups o → Only e o
  unfolding key_hit
  own_index none p = tt
  own_index (some j) p = x.good.valid.group_table.distinct j e p.0 x.known (eqb-true _ _ p.1)

  index_at : place_or (λ (g : Group). g.index) 0 (held m).groups e ≡ key (store_of m).group_rows e
  unfolding group_by
  index_at = group-at (store_of m) 0 e (λ (g : Group). g.index) x.known

  module _ {index : ℕ} (i : index ≡ place_or (λ (g : Group). g.index) 0 (held m).groups e) where
    -- the path is released: group e takes the empty path
    pub release-path : OldGroup m e index 0 0 0
    unfolding find_key
    release-path =
        let k = key (store_of m).group_rows e in
        let hit = key_hit (store_of m).group_rows k in
        let last : index_place index (held m).groups ≡ last_below hit (header_of m).groups = ap (λ (j : ℕ). index_place j (held m).groups) (i ∙ index_at) ∙ index-found x.good.valid k ∙ x.good.valid.group_table.latest k in
        record {
          good = x.good;
          known = x.known;
          free = subst (λ (o : Option ℕ). Only e o) (sym last) (own_index (last_below hit (header_of m).groups) (last_below-passes hit (header_of m).groups));
          placed = none-placed (header_of m).used (store_of m).texts;
          handles = omega arith;
          space = omega (arith, x.good.valid.header.held);
        }

    gone-path : merged_group [] index 0 (group_at (held m) e) ≡ repath [] (group_at (held m) e)
    unfolding merged_group grown
    gone-path =
        let l = (group_at (held m) e).slots in
        let more : 0 - length l ≡ 0 = omega arith in
        rw (i ∙ at_place (held m) e (listed x.good x.known) (λ (g : Group). g.index) 0, more, append-nil l)

    pub gone : {m' : List ℕ} → Stepped m m' (with_group (held m) e (merged_group (part (store_of m).texts 0 0) index 0)) → PathReleased m m' e n
    unfolding part group_fields group_text
    gone {m'} s =
        let l = listed x.good x.known in
        let t = stepped-as s (changed-alike (held m) e l (merged_group [] index 0) (repath []) gone-path) in
        let own = path-bytes x.good x.known in
        let k = numbers t.good t.content (changed-counts x.good x.known (repath []) {fields = (header_of m).fields} {text = (header_of m).held - path_bytes (held m) e} refl (omega (arith, own, texts-held x.good x.known))) in
        record { old = []; stepped = t; space = omega (arith, k.text-is, x.space, ap (λ (a : Allowances). a.text) (k.allowed-are ∙ changed-allowed x.good x.known (repath []))) }

pub given : {m path m₁ m₂ : List ℕ} {e : ℕ} {span : TextSpan} → PathReleased m m₁ e (length path) → TextWritten m₁ path m₂ span → PathWritten m path m₂ e span
given {m₁ = m₁} f p =
    let k = numbers p.stepped.good p.stepped.content (counts f.stepped.good) in
    record {
      freed = record { old = f.old; stepped = same_then f.stepped p.stepped; space = omega (arith, f.space, k.text-is, ap (λ (x : Allowances). x.text) (k.allowed-are ∙ allowed m₁)) };
      within = p.within;
      long = p.long;
      text = p.text;
    }

-- the new path is written, and the group takes it
module _ {m path m' : List ℕ} {e index slots : ℕ} {span : TextSpan} (asked : GroupRequest m path e index slots) (g : PathWritten m path m' e span) where
  abbrev s : Stepped m m' (with_group (held m) e (repath g.freed.old))
  s = g.freed.stepped

  abbrev low : e < length (held m).groups
  low = listed asked.good asked.known

  pub old-group : OldGroup m' e index span.at span.len slots
  old-group = record {
    good = s.good;
    known = omega (arith, (counts s.good).groups-are, ap (λ (c : Content). length c.groups) s.content, length-with (held m) e low (repath g.freed.old), low);
    free = rw (ap (λ (c : Content). index_place index c.groups) s.content ∙ index_kept (held m) e low (repath g.freed.old) index refl) asked.free;
    placed = record { within = g.within; is_text = rw g.text asked.is_text };
    handles = asked.handles;
    space = omega (arith, g.freed.space, g.long);
  }

-- ---- a group that is merged

-- a merged group has the fields and names that it had
merged-fields : (path : List ℕ) (index slots : ℕ) (g : Group) → group_fields (merged_group path index slots g) ≡ group_fields g
unfolding group_fields merged_group grown slot_fields
merged-fields path index slots g =
    let None-more = sum-none slot_fields {a = empty} (slots - length g.slots) refl in
    omega (arith, sum-append slot_fields g.slots (replicate (slots - length g.slots) empty), None-more)

merged-text : (path : List ℕ) (index slots : ℕ) (g : Group) → group_text (merged_group path index slots g) + length g.path ≡ group_text g + length path
unfolding group_text merged_group grown slot_text
merged-text path index slots g =
    let None-more = sum-none slot_text {a = empty} (slots - length g.slots) refl in
    omega (arith, sum-append slot_text g.slots (replicate (slots - length g.slots) empty), None-more)

-- w is the allowance that group e would pass with this path
module _ {m path : List ℕ} {e index slots : ℕ} {w : Option ℕ} (asked : GroupRequest m path e index slots) (passes : w ≡ passes_by m 0 0 0 (path_bytes (held m) e) (length path)) where
  q : w ≡ passed_by (allowances_of m) (header_of m).guids (header_of m).groups (header_of m).fields ((header_of m).held - path_bytes (held m) e + length path)
  q = rw (add-zero (header_of m).guids, add-zero (header_of m).groups, add-zero (header_of m).fields) at passes

  abbrev by : Group → Group
  by = merged_group path index slots

  there : e < length (held m).groups
  there = listed asked.good asked.known

  merged-counts : HeldCounts (with_group (held m) e by) (header_of m).guids (header_of m).groups (header_of m).fields ((header_of m).held - path_bytes (held m) e + length path)
  merged-counts =
      let own = group_at (held m) e in
      changed-counts asked.good asked.known by
      (omega (arith, merged-fields path index slots own))
      (omega (arith, merged-text path index slots own, path-bytes asked.good asked.known, path-held asked.good asked.known))

  merged-allowed : (with_group (held m) e by).allowed ≡ allowances_of m
  merged-allowed = changed-allowed asked.good asked.known by

  pub merge-full : {m' : List ℕ} → {r : Refusal} → FitsBy w (Err r) → m' ≡ m → NotTaken (merging (held m) e path index slots) r m m'
  merge-full = full merged-counts merged-allowed q e schema_step

  module _ (z : w ≡ none) where
    pub merge-fits : PathFits m e (length path)
    merge-fits = record { good = asked.good; known = asked.known; space = (allows merged-counts merged-allowed q z).text-fits }

    merged : {m₁ m₂ : List ℕ} → Stepped m m₁ (with_group (held m) e by) → CountersStepped m₁ m₂ schema_step → Taken (merging (held m) e path index slots) e m m₂
    merged s k = kept merged-counts merged-allowed q e schema_step z (counted-then s k)

    pub merge-taken : {m₁ m₂ m₃ : List ℕ} {span : TextSpan} → PathWritten m path m₁ e span → Stepped m₁ m₂ (with_group (held m₁) e (merged_group (part (store_of m₁).texts span.at span.len) index slots)) → CountersStepped m₂ m₃ schema_step → Taken (merging (held m) e path index slots) e m m₃
    unfolding merged_group
    merge-taken g s k =
        let first = g.freed.stepped in
        merged (then first (stepped-as (rw (first.content, g.text) at s) (changed-twice (held m) e there (repath g.freed.old) by by refl))) k

-- ---- a group that only grows

-- the group already has this path and this index
pub named : {path own : List ℕ} {index key : ℕ} → (same path own && eqb index key) ≡ true → (path ≡ own) × (index ≡ key)
named {path} {own} {index} {key} h = let both = and-true (same path own) (eqb index key) h in (same_true path own both.0, eqb-true index key both.1)

module _ {m path : List ℕ} {e index slots : ℕ} (asked : GroupRequest m path e index slots) (p : path ≡ place_or (λ (g : Group). g.path) [] (held m).groups e) (i : index ≡ place_or (λ (g : Group). g.index) 0 (held m).groups e) where
  same-held : (header_of m).held - path_bytes (held m) e + length path ≡ (header_of m).held
  same-held = omega (arith, ap length p, path-held asked.good asked.known)

  only-grown : grown_group slots (group_at (held m) e) ≡ merged_group path index slots (group_at (held m) e)
  unfolding merged_group
  only-grown =
      let at = listed asked.good asked.known in
      rw (p ∙ at_place (held m) e at (λ (g : Group). g.path) [], i ∙ at_place (held m) e at (λ (g : Group). g.index) 0)

  pub grow-taken : {m₁ m₂ : List ℕ} → Stepped m m₁ (with_group (held m) e (grown_group slots)) → CountersStepped m₁ m₂ schema_step → Taken (merging (held m) e path index slots) e m m₂
  grow-taken s k =
      merged asked (rw (add-zero (header_of m).guids, add-zero (header_of m).groups, add-zero (header_of m).fields, same-held) (sym (within asked.good))) refl
      (stepped-as s (changed-alike (held m) e (listed asked.good asked.known) (grown_group slots) (merged_group path index slots) only-grown)) k
