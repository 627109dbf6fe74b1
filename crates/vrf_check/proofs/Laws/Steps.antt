-- Laws about the steps of the check: together they are the check. The proofs of the functions use them.
use Rattle.std.specs.Prelude.{◌≡◌, Bool, true, false, ◌&&◌, List, ℕ, ◌+◌, ◌-◌, ◌*◌, ◌/◌, ◌%◌, ◌<◌, ◌≤◌, length, take, drop, Option as Maybe, Some, None}
use Rattle.std.proofs.Math.Path.{refl, sym, ap}
use Rattle.std.proofs.Common.{◌∙◌}
use Rattle.std.proofs.Math.Option.{Option, none, some}
use native.Mathlib.Omega.{arith}
use Rattle.vrf_path.specs.Leaf.{leaf}
use Rattle.vrf_model.specs.Lookup.{Claim}
use Rattle.vrf_path.specs.Keys.{default_alias, core_alias}
use Rattle.vrf_path.specs.Answers.{spelled, key_bytes}
use Rattle.vrf_path.specs.declared.Key.{Key}
use Rattle.vrf_table.specs.Table.{at, len, text}
use Rattle.vrf_table.specs.TextIndex.{key_numbered, find_path}
use Rattle.vrf_table.specs.declared.GroupRows.{GroupRows}
use Rattle.vrf_table.specs.declared.PathIndex.{PathIndex}
use Rattle.vrf_table.specs.declared.LeafIndex.{LeafIndex}
use Rattle.vrf_store.specs.UpTo.{all_below}
use Rattle.vrf_store.specs.Layout
use Rattle.vrf_store.specs.Store.{Store, header_of, store_of}
use Rattle.vrf_store.specs.Check.{text_ok, is32, not_before, reach_ok, is_settled, settled_ok, guid_ok, key_ok, leaf_ok, group_ok, slot_ok, field_ok, store_ok, bounds_ok}
use Rattle.vrf_store.specs.Inner.Indexes.{Readable, GroupParts, PathParts, LeafParts}
use Rattle.vrf_store.proofs.Laws.Check.Check.{header-good, test-facts}
use Rattle.vrf_store.proofs.Laws.Check.Valid.{laid-shaped}
use Rattle.vrf_store.proofs.Laws.Check.Steps.{rest_part}
use Rattle.vrf_check.specs.Inner.Steps.{row_ok, slot_in, field_row_ok, keys_pass, leaf_passes, key_reach, keys_reach, leaf_settled, path_ok, sum_ok, texts_ok, guids_ok, groups_ok, fields_ok, rows_ok, paths_ok, ShortTexts, InBounds}

-- ---- the steps together are the check

unfoldable pub steps_ok : Store → Bool
steps_ok s = sum_ok s && (texts_ok s && (rows_ok s && paths_ok s))

same_tests : (a b : Bool) → (a ≡ true → b ≡ true) → (b ≡ true → a ≡ true) → a ≡ b
same_tests true b f g = sym (f refl)
same_tests false true f g = g refl
same_tests false false f g = refl

module _ (s : Store) where
  key-reach : (g j : ℕ) → j < 3 → {i : ℕ} → i ≡ 3 * g + j → key_ok s i ≡ key_reach s.group_rows s.texts s.path_links s.path_heads (Layout.path_buckets s.header.allowed) s.header.groups g j
  unfolding key_ok key_reach
  key-reach g j h e =
      let group : (3 * g + j) / 3 ≡ g = omega arith in
      let number : (3 * g + j) % 3 ≡ j = omega arith in
      rw (e, group, number)

  pub store-steps : store_ok s ≡ steps_ok s
  unfolding store_ok guid_ok group_ok field_ok slot_ok leaf_ok is32 steps_ok sum_ok texts_ok rows_ok guids_ok groups_ok fields_ok paths_ok row_ok field_row_ok slot_in path_ok keys_reach leaf_settled
  store-steps = same_tests (store_ok s) (steps_ok s)
      (λ h. let f = simp test-facts at h in
      let guid = f.0 in
      let group = f.1.0 in
      let field = f.1.1.0 in
      simp test-facts (
        f.1.1.1,
        (
          ((λ e k. (guid e k).0), ((λ e k. (group e k).0), (λ e k. (field e k).0))),
          (
            ((λ e k. let g = (guid e k).1 in (g.0, (omega (arith, g.1.0), g.1.1))), ((λ e k. let g = (group e k).1 in (g.0, (g.1.0, g.1.1.0))), (λ e k. (field e k).1))),
            (λ e k. let g = (group e k).1.1.1.1 in ((sym (key-reach e 0 (omega arith) (omega arith)) ∙ g.0, (sym (key-reach e 1 (omega arith) refl) ∙ g.1.0, sym (key-reach e 2 (omega arith) refl) ∙ g.1.1.0)), g.1.1.1)),
          ),
        ),
      ))
      (λ h. let f = simp test-facts at h in
      let texts = f.1.0 in
      let rows = f.1.1.0 in
      simp test-facts (
        (λ e k. let g = rows.0 e k in (texts.0 e k, (g.0, (omega (arith, g.1.0), g.1.1)))),
        (
          (λ e k. let g = rows.1.0 e k in let p = f.1.1.1 e k in
              (texts.1.0 e k, (g.0, (g.1.0, (g.1.1, (key-reach e 0 (omega arith) (omega arith) ∙ p.0.0, (key-reach e 1 (omega arith) refl ∙ p.0.1.0, (key-reach e 2 (omega arith) refl ∙ p.0.1.1, p.1)))))))),
          ((λ e k. (texts.1.1 e k, rows.1.1 e k)), f.0),
        ),
      ))

-- ---- what the steps require of memory

pub in_bounds : (m : List ℕ) → bounds_ok (header_of m) (length m) ≡ true → InBounds m
unfolding bounds_ok
in_bounds m h = let facts = simp test-facts at h in record { enough = facts.1.1.0; shaped = laid-shaped m h; header = header-good (header_of m) facts.1.0 facts.1.1.1 }

module _ (m : List ℕ) (l : InBounds m) (h : texts_ok (store_of m) ≡ true) where
  each-text : (e : ℕ) → e < (header_of m).groups → (at (store_of m).group_rows e + len (store_of m).group_rows e ≤ (header_of m).used) × (len (store_of m).group_rows e ≤ 4096)
  unfolding texts_ok text_ok
  each-text e k = let f = (simp test-facts at h).1.0 e k in (f.0, f.1.0)

  -- the walks can read the text of any group
  pub groups-readable : Readable m (header_of m).groups
  groups-readable = record { enough = l.enough; few = omega (arith, l.header); low = l.header.groups; texts = λ e k. omega (arith, each-text e k, l.shaped, l.header) }

  pub groups-short : {t : GroupRows} {n : ℕ} → GroupParts t (store_of m) n → n ≡ (header_of m).groups → ShortTexts t
  groups-short p en e k = rw p.rows (each-text e (omega (arith, p.count))).1

-- the indexes of the code are those of the store
pub paths-steps : {p : PathIndex} {l : LeafIndex} {s : Store} {n : ℕ} → PathParts p s n → LeafParts l s n → n ≡ s.header.groups → all_below (λ g. keys_pass p g && leaf_passes l g) n ≡ paths_ok s
unfolding paths_ok path_ok
paths-steps pp lp en = rw (pp.groups.rows, pp.groups.texts, pp.groups.count, pp.links, pp.heads, pp.buckets, lp.chains.groups.rows, lp.chains.groups.texts, lp.chains.groups.count, lp.chains.links, lp.heads, lp.buckets, en)

-- ---- keys and leaves of group g

-- the answer for key j of the path, which is o, is that for key j of the text
numbered : (find : List ℕ → Option ℕ) {path t : List ℕ} → path ≡ t → (g j : ℕ) {i : ℕ} {o : Option (List ℕ)} {r : Bool}
    → i ≡ 3 * g + j → o ≡ key_numbered path j → r ≡ reach_ok find i o → r ≡ reach_ok find (3 * g + j) (key_numbered t j)
numbered find e g j ei eo er = rw (← ei, ← e, ← eo) er

-- an alias that the path may not have
module _ (find : List ℕ → Option ℕ) (e : ℕ) (t : List ℕ) (k : Maybe Key) where
  pub alias-gone : k ≡ None → true ≡ reach_ok find e (spelled t k)
  unfolding reach_ok
  alias-gone h = rw h

  pub alias-there : {j : Key} {r : Bool} → k ≡ Some j → r ≡ not_before e (find (key_bytes t j)) → r ≡ reach_ok find e (spelled t k)
  unfolding reach_ok
  alias-there h er = rw h er

-- the answers of the walks for the path itself, for its default alias and for its core alias
module _ (r x links heads : List ℕ) (b n g : ℕ) {path : List ℕ} (e : path ≡ text r x g) where
  pub own-key : {v : Bool} → v ≡ not_before (3 * g) (find_path r x links heads b n path) → v ≡ key_reach r x links heads b n g 0
  unfolding key_reach key_numbered reach_ok
  own-key ev = numbered (find_path r x links heads b n) e g 0 {i = 3 * g} {o = some path} (omega arith) refl ev

  module _ {o : Option (List ℕ)} {v : Bool} where
    pub default-key : o ≡ default_alias path → v ≡ reach_ok (find_path r x links heads b n) (3 * g + 1) o → v ≡ key_reach r x links heads b n g 1
    unfolding key_reach key_numbered
    default-key eo ev = numbered (find_path r x links heads b n) e g 1 refl eo ev

    pub core-key : o ≡ core_alias path → v ≡ reach_ok (find_path r x links heads b n) (3 * g + 2) o → v ≡ key_reach r x links heads b n g 2
    unfolding key_reach key_numbered
    core-key eo ev = numbered (find_path r x links heads b n) e g 2 refl eo ev

module _ (claim : List ℕ → Claim) {path t : List ℕ} (e : path ≡ t) (g : ℕ) where
  -- the leaf is `&path[i..]`
  pub leaf-there : (i : ℕ) {v : Claim} {r : Bool} → leaf path ≡ some (drop i path) → v ≡ claim (take (length path - i) (drop i path)) → r ≡ is_settled g v → r ≡ settled_ok claim g (leaf t)
  unfolding settled_ok
  leaf-there i el ev er = rw (← e, el) (er ∙ ap (is_settled g) (ev ∙ ap claim (rest_part path i)))

  pub leaf-none : leaf path ≡ none → true ≡ settled_ok claim g (leaf t)
  unfolding settled_ok
  leaf-none el = rw (← e, el)
