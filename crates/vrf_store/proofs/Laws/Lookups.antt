-- Laws about lookups: what a walk finds in a valid store is what document 01 defines for the book it holds. All lookups use them.
use Rattle.std.specs.Prelude.{◌≡◌, ℕ, zero, suc, ◌+◌, ◌*◌, ◌/◌, ◌%◌, ◌<◌, ◌≤◌, Bool, true, false, cond, ◌||◌, List, [], ◌∷◌, ◌++◌, length, take, set, slice_index_or, slice_set}
use Rattle.std.proofs.Math.Path.{refl, sym, ap, ap₂, subst, fun_ext}
use Rattle.std.proofs.Common.{◌∙◌, not-suc-le-zero, le_of_suc-le-suc}
use Rattle.std.proofs.Math.Bool.{or-true}
use Rattle.std.proofs.Math.Option.{Option, none, some}
use Rattle.std.proofs.Math.Nat.{add-zero}
use native.Mathlib.Omega.{arith}
use Rattle.std.proofs.Math.ListN.{get_or-eq_default}
use borrow.Author.Tests.{eqb-true}
use Rattle.vrf_bitio.proofs.Laws.Cases.{by_cond}
use Rattle.vrf_path.specs.Keys.{has_key, key_is}
use Rattle.vrf_path.specs.Leaf.{leaf}
use Rattle.vrf_path.specs.Base.{leaf_base}
use Rattle.vrf_path.proofs.Laws.Keys.{has-by-parts}
use Rattle.vrf_model.specs.Book.{Guid, Group, empty}
use Rattle.vrf_model.specs.Lookup
use Rattle.vrf_model.specs.Lookup.{place_or, path_place, index_place, guid_place, slot_at, Claim, absent, ambiguous, claimed, has_leaf, places_from, claim_of_places, leaf_claim}
use Rattle.vrf_model.specs.Setting.{alter}
use Rattle.vrf_model.proofs.Laws.Claims.{claim_with_head, claim-cons}
use Rattle.vrf_model.proofs.Laws.Places.{place_or-at, alter-set}
use Rattle.vrf_table.specs.Chain.{last_below}
use Rattle.vrf_table.specs.Index.{claim_unless_second, claim_from}
use Rattle.vrf_table.specs.Table.{key, info, text, key_hit, find_key}
use Rattle.vrf_table.specs.TextIndex.{text_start, key_numbered, path_hit, find_path, leaf_hit, leaf_start, claim_at, claim_of}
use Rattle.vrf_table.specs.Inner.Index.{claim_below, claim_or_later}
use Rattle.vrf_table.specs.Inner.TextIndex.{first_at}
use Rattle.vrf_table.proofs.Laws.Chain.{Passes, last_below-passes}
use Rattle.vrf_store.specs.UpTo.{up_to}
use Rattle.vrf_store.specs.Layout
use Rattle.vrf_store.specs.Store.{Store, guid_at, field_at, or_empty, slot_key, slot_by, group_by, content_of}
use Rattle.vrf_store.specs.Inner.Valid.{Valid}
use Rattle.vrf_store.specs.Inner.Lookups.{NameLeaves}
use Rattle.vrf_store.proofs.Laws.Memory.UpTo.{length-up_to, get_d-up_to, last_place-up_to}

-- ---- the record at a place

module _ {A B : Type 0} (f : A → B) (d : B) where
  past : (l : List A) (i : ℕ) → length l ≤ i → place_or f d l i ≡ d
  unfolding place_or
  past [] i h = refl
  past (a ∷ l) zero h = absurd (not-suc-le-zero h)
  past (a ∷ l) (suc i) h = past l i (le_of_suc-le-suc h)

  module _ (g : ℕ → A) (n i : ℕ) where
    pub place_or-up_to : i < n → place_or f d (up_to g n) i ≡ f (g i)
    place_or-up_to h = place_or-at f d (up_to g n) i (g i) (rw (length-up_to g n) h) ∙ ap f (get_d-up_to g n i (g i) h)

    pub place_or-past : n ≤ i → place_or f d (up_to g n) i ≡ d
    place_or-past h = past (up_to g n) i (rw (length-up_to g n) h)

module _ (s : Store) {B : Type 0} (d : B) (i : ℕ) where
  module _ (f : Guid → B) where
    pub guid-at : i < s.header.guids → place_or f d (content_of s).guids i ≡ f (guid_at s i)
    unfolding content_of
    guid-at = place_or-up_to f d (guid_at s) s.header.guids i

    pub guid-past : s.header.guids ≤ i → place_or f d (content_of s).guids i ≡ d
    unfolding content_of
    guid-past = place_or-past f d (guid_at s) s.header.guids i

  module _ (f : Group → B) where
    pub group-at : i < s.header.groups → place_or f d (content_of s).groups i ≡ f (group_by s s.header.fields i)
    unfolding content_of
    group-at = place_or-up_to f d (group_by s s.header.fields) s.header.groups i

    pub group-past : s.header.groups ≤ i → place_or f d (content_of s).groups i ≡ d
    unfolding content_of
    group-past = place_or-past f d (group_by s s.header.fields) s.header.groups i

pub group-altered : (s : Store) (i : ℕ) (f : Group → Group) → i < s.header.groups → alter f (content_of s).groups i ≡ slice_set (content_of s).groups i (f (group_by s s.header.fields i))
unfolding content_of
group-altered s i f h =
    let by = group_by s s.header.fields in
    alter-set f (up_to by s.header.groups) i (by i) (rw length-up_to h) ∙ ap (λ (g : Group). set (up_to by s.header.groups) i (f g)) (get_d-up_to by s.header.groups i (by i) h)

-- ---- finding by GUID and by path-name index

module _ {s : Store} (v : Valid s) where
  pub guid-found : (g : ℕ) → guid_place g (content_of s).guids ≡ find_key s.guid_rows s.guid_heads (Layout.guid_buckets s.header.allowed) s.header.guids g
  unfolding guid_place content_of guid_at find_key key_hit
  guid-found g = last_place-up_to _ (guid_at s) s.header.guids ∙ sym (v.guid_table.latest g)

  -- the record that is found has the GUID
  pub guid-known : (g e : ℕ) → guid_place g (content_of s).guids ≡ some e → (e < s.header.guids) × (key s.guid_rows e ≡ g)
  unfolding find_key key_hit
  guid-known g e q =
      let last : last_below (key_hit s.guid_rows g) s.header.guids ≡ some e = sym (v.guid_table.latest g) ∙ sym (guid-found g) ∙ q in
      let it = subst (λ (o : Option ℕ). Passes (key_hit s.guid_rows g) s.header.guids o) last (last_below-passes (key_hit s.guid_rows g) s.header.guids) in
      (it.0, eqb-true (key s.guid_rows e) g it.1)

  pub index-found : (i : ℕ) → index_place i (content_of s).groups ≡ find_key s.group_rows s.group_heads (Layout.group_buckets s.header.allowed) s.header.groups i
  unfolding index_place content_of group_by find_key key_hit
  index-found i = last_place-up_to _ (group_by s s.header.fields) s.header.groups ∙ sym (v.group_table.latest i)

-- ---- finding by path

-- the group of an entry in the path index
unfoldable pub third : Option ℕ → Option ℕ
third none = none
third (some e) = some (e / 3)

-- each group has three entries, so the last entry that passes belongs to the last group with an entry that passes
third_last : (hit : ℕ → Bool) (n : ℕ) → third (last_below hit (3 * n)) ≡ last_below (λ g. hit (3 * g) || (hit (3 * g + 1) || hit (3 * g + 2))) n
unfolding last_below third
third_last hit zero = refl
third_last hit (suc n) =
    let three : 3 * suc n ≡ suc (suc (suc (3 * n))) = omega arith in
    let two : suc (suc (3 * n)) ≡ 3 * n + 2 = omega arith in
    let one : suc (3 * n) ≡ 3 * n + 1 = omega arith in
    rw (three, two, one, ← third_last hit n) (go (hit (3 * n)) (hit (3 * n + 1)) (hit (3 * n + 2)))
  where
    go : (a b c : Bool) → third (cond c (some (3 * n + 2)) (cond b (some (3 * n + 1)) (cond a (some (3 * n)) (last_below hit (3 * n))))) ≡ cond (a || (b || c)) (some n) (third (last_below hit (3 * n)))
    go a b true = rw (or-true b, or-true a) (ap some (omega arith))
    go a true false = rw (or-true a) (ap some (omega arith))
    go true false false = ap some (omega arith)
    go false false false = refl

module _ (r x k : List ℕ) (g : ℕ) where
  -- entry 3 g + j is key j of group g
  pub path-entry : (j : ℕ) → j < 3 → path_hit r x k (3 * g + j) ≡ key_is (key_numbered (text r x g) j) k
  unfolding path_hit
  path-entry j h =
      let d : (3 * g + j) / 3 ≡ g = omega arith in
      let m : (3 * g + j) % 3 ≡ j = omega arith in
      rw (d, m)

  -- a group has a key if one of its three entries is that key
  path-entries : has_key (text r x g) k ≡ (path_hit r x k (3 * g) || (path_hit r x k (3 * g + 1) || path_hit r x k (3 * g + 2)))
  unfolding key_numbered key_is
  path-entries = has-by-parts (text r x g) k ∙ sym (rw (rw add-zero at (path-entry 0 (omega arith)), path-entry 1 (omega arith), path-entry 2 (omega arith)))

module _ {s : Store} (v : Valid s) where
  pub path-found : (k : List ℕ) → path_place k (content_of s).groups ≡ third (find_path s.group_rows s.texts s.path_links s.path_heads (Layout.path_buckets s.header.allowed) s.header.groups k)
  unfolding path_place content_of group_by find_path
  path-found k =
      last_place-up_to _ (group_by s s.header.fields) s.header.groups
      ∙ ap (λ (hit : ℕ → Bool). last_below hit s.header.groups) (fun_ext (path-entries s.group_rows s.texts k))
      ∙ sym (third_last (path_hit s.group_rows s.texts k) s.header.groups)
      ∙ ap third (sym (v.paths k))

-- ---- finding by leaf

-- the claim of a leaf when one more group, number n, has it
abbrev again : ℕ → Claim → Claim
again n absent = claimed n
again n ambiguous = ambiguous
again n (claimed i) = ambiguous

again-head : (b : Bool) (n : ℕ) (c : Claim) → claim_with_head b (again n c) ≡ again (suc n) (claim_with_head b c)
unfolding claim_with_head
again-head true n absent = refl
again-head true n ambiguous = refl
again-head true n (claimed i) = refl
again-head false n absent = refl
again-head false n ambiguous = refl
again-head false n (claimed i) = refl

module _ (l : List ℕ) (g : Group) where
  -- one more group, which has the leaf or not
  leaf-hit : (gs : List Group) → has_leaf l g ≡ true → leaf_claim l (gs ++ (g ∷ [])) ≡ again (length gs) (leaf_claim l gs)
  unfolding claim_with_head leaf_claim places_from claim_of_places
  leaf-hit [] e = rw e
  leaf-hit (x ∷ gs) e = rw (claim-cons l x (gs ++ (g ∷ [])), claim-cons l x gs, leaf-hit gs e) (again-head (has_leaf l x) (length gs) (leaf_claim l gs))

  leaf-miss : (gs : List Group) → has_leaf l g ≡ false → leaf_claim l (gs ++ (g ∷ [])) ≡ leaf_claim l gs
  unfolding leaf_claim places_from
  leaf-miss [] e = rw e
  leaf-miss (x ∷ gs) e = rw (claim-cons l x (gs ++ (g ∷ [])), claim-cons l x gs, leaf-miss gs e)

claim-again : (hit : ℕ → Bool) (n : ℕ) → claim_unless_second n (last_below hit n) ≡ again n (claim_below hit n)
unfolding claim_below claim_from claim_unless_second
claim-again hit n = go (last_below hit n)
  where
    twice : (i : ℕ) (o : Option ℕ) → ambiguous ≡ again n (claim_unless_second i o)
    twice i none = refl
    twice i (some j) = refl

    go : (o : Option ℕ) → claim_unless_second n o ≡ again n (claim_from (last_below hit) o)
    go none = refl
    go (some i) = twice i (last_below hit i)

pub leaf_claim-up_to : (l : List ℕ) (f : ℕ → Group) (n : ℕ) → leaf_claim l (up_to f n) ≡ claim_below (λ e. has_leaf l (f e)) n
unfolding up_to leaf_claim places_from claim_of_places claim_below claim_from last_below
leaf_claim-up_to l f zero = refl
leaf_claim-up_to l f (suc n) =
    let hit : ℕ → Bool = λ e. has_leaf l (f e) in
    by_cond (λ (o : Option ℕ). leaf_claim l (up_to f n ++ (f n ∷ [])) ≡ claim_from (last_below hit) o) (hit n)
    (λ t. leaf-hit l (f n) (up_to f n) t ∙ ap₂ again (length-up_to f n) (leaf_claim-up_to l f n) ∙ sym (claim-again hit n))
    (λ t. leaf-miss l (f n) (up_to f n) t ∙ leaf_claim-up_to l f n)

-- the tests of `vrf_model` and `vrf_path` take their arguments in different order
the_same : (l : List ℕ) (o : Option (List ℕ)) → Lookup.leaf_is l o ≡ key_is o l
unfolding key_is Lookup.leaf_is
the_same l none = refl
the_same l (some t) = refl

module _ {s : Store} (v : Valid s) where
  pub leaf-found : (l : List ℕ) → leaf_claim l (content_of s).groups ≡ claim_of s.group_rows s.texts s.leaf_links s.leaf_heads (Layout.leaf_buckets s.header.allowed) s.header.groups l
  unfolding content_of group_by has_leaf claim_of leaf_hit
  leaf-found l =
      leaf_claim-up_to l (group_by s s.header.fields) s.header.groups
      ∙ ap (λ (hit : ℕ → Bool). claim_below hit s.header.groups) (fun_ext (λ g. the_same l (leaf (text s.group_rows s.texts g))))
      ∙ sym (v.leaves l)

  -- claims found in the chain of the leaf's base, for one leaf and for three
  abbrev chain : List ℕ → ℕ
  chain base = text_start s.leaf_heads (Layout.leaf_buckets s.header.allowed) base

  base-found : (l : List ℕ) {p : ℕ} {base : List ℕ} → p ≡ chain base → base ≡ leaf_base l → claim_at s.group_rows s.texts s.leaf_links s.header.groups p l ≡ leaf_claim l (content_of s).groups
  unfolding claim_of leaf_start
  base-found l ep eb = ap (λ (i : ℕ). claim_at s.group_rows s.texts s.leaf_links s.header.groups i l) (ep ∙ ap chain eb) ∙ sym (leaf-found l)

  pub first_found : {name a b c : List ℕ} {n p q : ℕ} → NameLeaves name n a b c → p ≡ chain (take n name) → q ≡ chain name
      → first_at s.group_rows s.texts s.leaf_links s.header.groups p q (name ++ a) (name ++ b) (name ++ c)
      ≡ claim_or_later (leaf_claim (name ++ a) (content_of s).groups) (claim_or_later (leaf_claim (name ++ b) (content_of s).groups) (leaf_claim (name ++ c) (content_of s).groups))
  unfolding first_at
  first_found {name} {a} {b} {c} l ep eq =
      ap₂ claim_or_later (base-found (name ++ a) ep l.base_first) (ap₂ claim_or_later (base-found (name ++ b) eq l.base_second) (base-found (name ++ c) eq l.base_third))

-- ---- slots

module _ {s : Store} (v : Valid s) (place slot : ℕ) where
  pub slot-found : place < s.header.groups → slot < info s.group_rows place → slot_at (content_of s).groups place slot ≡ or_empty (field_at s) (find_key s.field_rows s.field_heads (Layout.field_buckets s.header.allowed) s.header.fields (slot_key place slot))
  unfolding slot_at group_by slot_by find_key
  slot-found h k =
      group-at s empty place (λ g. slice_index_or g.slots slot empty) h
      ∙ get_d-up_to (slot_by s s.header.fields place) (info s.group_rows place) slot empty k
      ∙ ap (or_empty (field_at s)) (sym (v.field_table.latest (slot_key place slot)))

module _ (s : Store) (place slot : ℕ) where
  -- past the groups a slot is empty
  pub slot-no-group : s.header.groups ≤ place → slot_at (content_of s).groups place slot ≡ empty
  unfolding slot_at
  slot-no-group h = group-past s empty place (λ g. slice_index_or g.slots slot empty) h

  -- past the slots of a group a slot is empty
  pub slot-past : place < s.header.groups → info s.group_rows place ≤ slot → slot_at (content_of s).groups place slot ≡ empty
  unfolding slot_at group_by
  slot-past h k =
      group-at s empty place (λ g. slice_index_or g.slots slot empty) h
      ∙ get_or-eq_default (up_to (slot_by s s.header.fields place) (info s.group_rows place)) empty (rw (length-up_to (slot_by s s.header.fields place) (info s.group_rows place)) k)
