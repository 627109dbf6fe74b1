-- The cases of `add_group` on a well-formed memory, by where path and index are found. Used by the proofs of `merge_at`, `add_unknown` and
-- `add_export_group`.
use Rattle.std.specs.Prelude.{◌≡◌, ◌≢◌, List, ℕ, ◌≤◌}
use Rattle.std.proofs.Math.Path.{refl, subst}
use Rattle.std.proofs.Common.{sym, arith}
use Rattle.std.proofs.Math.Option.{Option, none, some}
use borrow.Author.Tests.{eq-eqb, ne_eqb}
use Rattle.vrf_text.specs.Text.{IsText}
use Rattle.vrf_model.specs.Book.{Content}
use Rattle.vrf_model.specs.Lookup.{path_place, index_place}
use Rattle.vrf_model.specs.Setting.{Step, refuses, new_group, merge, add_group_at, add_group}
use Rattle.vrf_model.proofs.Laws.Places.{last_place-some}
use Rattle.vrf_store.specs.Inner.WellFormed.{WellFormed}
use Rattle.vrf_store.specs.Inner.Stepped.{held}
use Rattle.vrf_store.specs.Inner.Groups.{Only}
use Rattle.vrf_cache.specs.Inner.Groups.{replacing, GroupRequest, GroupToAdd, merging, appending, MergeRequest}
use Rattle.vrf_cache.proofs.Laws.Numbers.{counts}

pub path-found : {m path : List ℕ} {e slots : ℕ} → WellFormed m × IsText path × (slots ≤ 65536) → some e ≡ path_place path (held m).groups → MergeRequest m path e slots
unfolding path_place
path-found {m} pre q = record { good = pre.0; is_text = pre.1; known = omega (arith, (last_place-some _ (held m).groups (sym q)).below, (counts pre.0).groups-are); handles = pre.2 }

module _ {m path : List ℕ} {e slots : ℕ} (index : ℕ) (x : MergeRequest m path e slots) where
  -- no other group has the index
  pub merge-asked : {o : Option ℕ} → o ≡ index_place index (held m).groups → Only e o → GroupRequest m path e index slots
  merge-asked q only = record { good = x.good; is_text = x.is_text; known = x.known; free = subst (λ (o : Option ℕ). Only e o) q only; handles = x.handles }

  abbrev wanted : Step ℕ
  wanted = add_group_at path index slots (held m) (some e) (index_place index (held m).groups)

  pub merged_by : Only e (index_place index (held m).groups) → wanted ≡ merging (held m) e path index slots
  unfolding add_group_at merge
  merged_by = go (index_place index (held m).groups)
    where
      go : (o : Option ℕ) → Only e o → add_group_at path index slots (held m) (some e) o ≡ merging (held m) e path index slots
      go none only = refl
      go (some j) only = rw (eq-eqb e j (sym only))

  -- another group has the index
  pub crossed-by : {j : ℕ} → some j ≡ index_place index (held m).groups → e ≢ j → wanted ≡ refuses 23 index 0
  unfolding add_group_at
  crossed-by {j} q ne = rw (← q, ne_eqb e j ne)

module _ {m path : List ℕ} {slots : ℕ} (index : ℕ) (pre : WellFormed m × IsText path × (slots ≤ 65536)) where
  abbrev asked : Step ℕ
  asked = add_group_at path index slots (held m) none (index_place index (held m).groups)

  module _ {j : ℕ} (q : some j ≡ index_place index (held m).groups) where
    pub replace-asked : GroupRequest m path j index slots
    unfolding index_place
    replace-asked = record { good = pre.0; is_text = pre.1; known = omega (arith, (last_place-some _ (held m).groups (sym q)).below, (counts pre.0).groups-are); free = subst (λ (o : Option ℕ). Only j o) q refl; handles = pre.2 }

    pub replaced-by : asked ≡ replacing (held m) j (new_group path index slots)
    unfolding add_group_at
    replaced-by = rw (← q)

  module _ (q : none ≡ index_place index (held m).groups) where
    pub append-asked : GroupToAdd m path index slots
    append-asked = record { good = pre.0; is_text = pre.1; new = sym q; handles = pre.2 }

    pub appended-by : asked ≡ appending (held m) (new_group path index slots)
    unfolding add_group_at
    appended-by = rw (← q)

-- ---- `add_export_group`

pub added-by : (path : List ℕ) (index slots : ℕ) (c : Content) {o : Option ℕ} → o ≡ path_place path c.groups → add_group path index slots c ≡ add_group_at path index slots c o (index_place index c.groups)
unfolding add_group
added-by path index slots c q = rw (← q)
