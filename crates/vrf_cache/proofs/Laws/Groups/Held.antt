-- A content with the group at a place changed: what it counts, and where indices are found in it.
use Rattle.std.specs.Prelude.{◌≡◌, refl, Bool, List, [], ◌∷◌, ℕ, zero, suc, ◌+◌, ◌<◌, ◌≤◌, length, get_or, set}
use Rattle.std.proofs.Common.{sym, ◌∙◌, not-suc-le-zero, le_of_suc-le-suc, arith, get_or-set_same, set-set}
use Rattle.std.proofs.Math.Path.{ap}
use Rattle.std.proofs.Math.Seq.{set-get_or}
use Rattle.vrf_model.specs.Book.{Group, Content, sum, group_fields, group_text, held_fields, held_text}
use Rattle.vrf_model.specs.Lookup.{last_place, place_or, index_place}
use Rattle.vrf_model.specs.Setting.{alter, with_groups}
use Rattle.vrf_model.proofs.Laws.Places.{place_or-at, alter-set, length-alter}
use Rattle.vrf_store.specs.Store.{allowances_of, header_of}
use Rattle.vrf_store.specs.Inner.WellFormed.{WellFormed}
use Rattle.vrf_store.specs.Inner.Stepped.{held}
use Rattle.vrf_store.specs.Inner.Fields.{with_group}
use Rattle.vrf_cache.specs.Inner.Groups.{no_group, group_at, path_bytes}
use Rattle.vrf_cache.proofs.Laws.Passed.{HeldCounts, sum-set, counts-group-set}
use Rattle.vrf_cache.proofs.Laws.Numbers.{allowed, counts}

-- an element replaced by one on which the test answers the same
last_place-set : {A : Type 0} (p : A → Bool) (l : List A) (i : ℕ) (a d : A) → i < length l → p a ≡ p (get_or l i d) → last_place p (set l i a) ≡ last_place p l
unfolding last_place
last_place-set p [] i a d h e = absurd (not-suc-le-zero h)
last_place-set p (x ∷ l) zero a d h e = rw e
last_place-set p (x ∷ l) (suc i) a d h e = rw (last_place-set p l i a d (le_of_suc-le-suc h) e)

-- ---- the group at a place

module _ (c : Content) (e : ℕ) (low : e < length c.groups) where
  pub at_place : {B : Type 0} (f : Group → B) (b : B) → place_or f b c.groups e ≡ f (group_at c e)
  at_place f b = place_or-at f b c.groups e no_group low

  -- the group there is replaced by f of it
  pub altered : (f : Group → Group) → alter f c.groups e ≡ set c.groups e (f (group_at c e))
  altered f = alter-set f c.groups e no_group low

  pub same-group : (f : Group → Group) → f (group_at c e) ≡ group_at c e → with_group c e f ≡ c
  unfolding with_groups
  same-group f q = ap (with_groups c) (altered f ∙ ap (set c.groups e) q ∙ set-get_or c.groups e no_group)

  module _ (f : Group → Group) where
    pub group-set : group_at (with_group c e f) e ≡ f (group_at c e)
    unfolding with_groups
    group-set = rw (altered f) (get_or-set_same c.groups e (f (group_at c e)) no_group low)

    pub length-with : length (with_group c e f).groups ≡ length c.groups
    unfolding with_groups
    length-with = length-alter f c.groups e

    -- if the index stays, each index is found at the same place
    pub index_kept : (k : ℕ) → (f (group_at c e)).index ≡ (group_at c e).index → index_place k (with_group c e f).groups ≡ index_place k c.groups
    unfolding with_groups index_place
    index_kept k q = rw (altered f) (last_place-set _ c.groups e _ no_group low (rw q))

    -- replacing group e after changing it is replacing it
    pub set-over : (g : Group) → with_groups (with_group c e f) (set (with_group c e f).groups e g) ≡ with_groups c (set c.groups e g)
    unfolding with_groups
    set-over g = rw (altered f) (ap (with_groups c) (set-set c.groups e (f (group_at c e)) g))

-- two functions that agree on the group make the same change
pub changed-alike : (c : Content) (e : ℕ) → e < length c.groups → (f g : Group → Group) → f (group_at c e) ≡ g (group_at c e) → with_group c e f ≡ with_group c e g
changed-alike c e low f g q = ap (with_groups c) (altered c e low f ∙ ap (set c.groups e) q ∙ sym (altered c e low g))

-- two changes of group e in sequence
pub changed-twice : (c : Content) (e : ℕ) → e < length c.groups → (f g h : Group → Group) → g (f (group_at c e)) ≡ h (group_at c e) → with_group (with_group c e f) e g ≡ with_group c e h
changed-twice c e low f g h q =
    let there : e < length (with_group c e f).groups = omega (arith, low, length-with c e low f) in
    ap (with_groups (with_group c e f)) (altered (with_group c e f) e there g ∙ ap (λ (x : Group). set (with_group c e f).groups e (g x)) (group-set c e low f))
    ∙ set-over c e low f (g (f (group_at c e)))
    ∙ ap (with_groups c) (ap (set c.groups e) q ∙ sym (altered c e low h))

-- ---- in a well-formed memory

no_text : group_text no_group ≡ 0
unfolding group_text no_group sum
no_text = refl

no_fields : group_fields no_group ≡ 0
unfolding group_fields no_group sum
no_fields = refl

module _ {m : List ℕ} (good : WellFormed m) {e : ℕ} (known : e < (header_of m).groups) where
  pub listed : e < length (held m).groups
  listed = omega (arith, known, (counts good).groups-are)

  -- the texts and fields of a group are part of what is held
  pub texts-held : group_text (group_at (held m) e) ≤ (header_of m).held
  unfolding held_text
  texts-held = omega (arith, sum-set group_text (held m).groups e no_group no_group listed, no_text, (counts good).text-is)

  pub fields-held : group_fields (group_at (held m) e) ≤ (header_of m).fields
  unfolding held_fields
  fields-held = omega (arith, sum-set group_fields (held m).groups e no_group no_group listed, no_fields, (counts good).fields-are)

  pub path-bytes : path_bytes (held m) e ≡ length (group_at (held m) e).path
  path-bytes = ap length (at_place (held m) e listed (λ (g : Group). g.path) [])

  pub path-held : path_bytes (held m) e ≤ (header_of m).held
  unfolding group_text
  path-held = omega (arith, path-bytes, texts-held)

  -- the counts with the group changed
  pub changed-counts : (f : Group → Group) {fields text : ℕ} → fields + group_fields (group_at (held m) e) ≡ (header_of m).fields + group_fields (f (group_at (held m) e)) → text + group_text (group_at (held m) e) ≡ (header_of m).held + group_text (f (group_at (held m) e)) → HeldCounts (with_group (held m) e f) (header_of m).guids (header_of m).groups fields text
  changed-counts f {fields} {text} p q = rw (altered (held m) e listed f) (counts-group-set (held m) (counts good) e (f (group_at (held m) e)) no_group listed fields text p q)

  pub changed-allowed : (f : Group → Group) → (with_group (held m) e f).allowed ≡ allowances_of m
  unfolding with_groups
  changed-allowed f = allowed m
