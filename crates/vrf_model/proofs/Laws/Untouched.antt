-- Demand 1 (Untouched.antt): a placed field changes its own slot only, an accepted adding changes its own group only, and a GUID's setting
-- changes no group. Proved of each step and of the direct calls; readers take the same steps. Used in `vrf_schema` (Laws/Demand1.antt).
use Rattle.std.specs.Prelude.{◌≡◌, Bool, eqb, ltb, set}
use Rattle.std.proofs.Math.Path.{refl, subst₂}
use Rattle.std.proofs.Common.{sym, ap, subst, le_of_suc-le-suc, not-suc-le-zero, get_or-set_same, get_or-set_other, ltb-true, eqb-true}
use Rattle.std.proofs.Math.Bool.{true, false, cond}
use mathlib.Core.List.{List, [], ◌∷◌, ◌++◌}
use Rattle.std.proofs.Math.Option.{Option, none, some}
use Prim.Native.Nat.{ℕ, zero, suc, ◌<◌}
use Rattle.std.proofs.Math.ListN.{length, get_or, length-set}
use Rattle.std.proofs.lemmas.Bool.{eqb-false}
use Rattle.vrf_text.specs.Text.{CallerText, accepted, refusal, caller_text}
use Rattle.vrf_bitio.proofs.Laws.Cases.{clash}
use Rattle.vrf_model.specs.Book.{Slot, empty, filled, Group, Content, Increments, passed}
use Rattle.vrf_model.specs.Lookup.{place_or, path_place, index_place, guid_place, slot_at}
use Rattle.vrf_model.specs.Setting.{Step, done, refuses, unless_passed, keep, alter, with_guids, with_groups, with_path, has_path, set_guid_at, set_guid, new_group, merged_group, merge}
use Rattle.vrf_model.specs.Setting.{add_group_at, add_group, with_slot, set_field_at, set_field}
use Rattle.vrf_model.specs.Calls.{add_export_group, set_field_on_group, at_place, field_placed, unchanged, of_step, if_text_accepted, add_directly, run}
use Rattle.vrf_model.specs.Untouched.{OneSlot, PlacedAlone, OneGroup}
use Rattle.vrf_model.proofs.Laws.Places.{last_place-some, place_or-last, length-alter}

-- ---- one element of a list changed

set-alter : {A : Type 0} (l : List A) (i : ℕ) (x : A) → set l i x ≡ alter (λ _. x) l i
unfolding alter
set-alter [] i x = refl
set-alter (a ∷ l) zero x = refl
set-alter (a ∷ l) (suc i) x = ap (λ (m : List _). a ∷ m) (set-alter l i x)

module _ {A B : Type 0} (f : A → B) (b : B) where
  -- a property f that g keeps is the same at every place
  alter-kept : (g : A → A) → ((a : A) → f (g a) ≡ f a) → (l : List A) (i p : ℕ) → place_or f b (alter g l i) p ≡ place_or f b l p
  unfolding place_or alter
  alter-kept g h [] i p = refl
  alter-kept g h (a ∷ l) zero zero = h a
  alter-kept g h (a ∷ l) zero (suc p) = refl
  alter-kept g h (a ∷ l) (suc i) zero = refl
  alter-kept g h (a ∷ l) (suc i) (suc p) = alter-kept g h l i p

  alter-others : (g : A → A) (l : List A) (i p : ℕ) → (p ≡ i → ⊥) → place_or f b (alter g l i) p ≡ place_or f b l p
  unfolding place_or alter
  alter-others g [] i p h = refl
  alter-others g (a ∷ l) zero zero h = absurd (h refl)
  alter-others g (a ∷ l) zero (suc p) h = refl
  alter-others g (a ∷ l) (suc i) zero h = refl
  alter-others g (a ∷ l) (suc i) (suc p) h = alter-others g l i p (λ e. h (ap suc e))

  -- the changed element has x, if g gives x to every element
  alter-own : (g : A → A) {x : B} → ((a : A) → f (g a) ≡ x) → (l : List A) (i : ℕ) → i < length l → place_or f b (alter g l i) i ≡ x
  unfolding place_or alter
  alter-own g h [] i k = absurd (not-suc-le-zero k)
  alter-own g h (a ∷ l) zero k = h a
  alter-own g h (a ∷ l) (suc i) k = alter-own g h l i (le_of_suc-le-suc k)

  last-others : (l : List A) (x : A) (p : ℕ) → (p ≡ length l → ⊥) → place_or f b (l ++ (x ∷ [])) p ≡ place_or f b l p
  unfolding place_or
  last-others [] x zero h = absurd (h refl)
  last-others [] x (suc p) h = refl
  last-others (a ∷ l) x zero h = refl
  last-others (a ∷ l) x (suc p) h = last-others l x p (λ e. h (ap suc e))

-- ---- an accepted step

-- an accepted `keep` leaves the content that it was given
kept : {A : Type 0} (a : A) (c : Content) (t : Increments) {r : A} {d : Content} {u : Increments} → keep a c t ≡ done r d u → (a ≡ r) × (c ≡ d)
unfolding keep unless_passed
kept {A} a c t {r} {d} {u} e = go (passed c) e
  where
    go : (o : Option ℕ) → unless_passed o a c t ≡ done r d u → (a ≡ r) × (c ≡ d)
    go none e = (cc, cc)
    go (some which) e = clash cc

-- the content c with the slot s written at a handle of the group at place i
abbrev written : Content → ℕ → ℕ → Slot → Content
written c i handle s = with_groups c (alter (with_slot handle s) c.groups i)

module _ (c : Content) (i handle : ℕ) (s : Slot) (space : handle < place_or (λ g. length g.slots) 0 c.groups i) where
  one-slot : OneSlot i handle s c (written c i handle s)
  unfolding slot_at with_slot with_groups place_or alter
  one-slot = record {
    own = own c.groups i space;
    others = λ p q ne. other p q ne (eqb p i) refl;
    paths = alter-kept (λ g. g.path) [] (with_slot handle s) (λ g. refl) c.groups i;
    indices = alter-kept (λ g. g.index) 0 (with_slot handle s) (λ g. refl) c.groups i;
    slots = alter-kept (λ g. length g.slots) 0 (with_slot handle s) (λ g. length-set g.slots handle s) c.groups i;
    groups = length-alter (with_slot handle s) c.groups i;
    guids = refl;
  }
    where
      at : ℕ → Group → Slot
      at q g = get_or g.slots q empty

      own : (l : List Group) (i : ℕ) → handle < place_or (λ g. length g.slots) 0 l i → place_or (at handle) empty (alter (with_slot handle s) l i) i ≡ s
      own [] i h = absurd (not-suc-le-zero h)
      own (g ∷ l) zero h = get_or-set_same g.slots handle s empty h
      own (g ∷ l) (suc i) h = own l i h

      other : (p q : ℕ) → ((p ≡ i) × (q ≡ handle) → ⊥) → (b : Bool) → eqb p i ≡ b → place_or (at q) empty (alter (with_slot handle s) c.groups i) p ≡ place_or (at q) empty c.groups p
      other p q ne true e = alter-kept (at q) empty (with_slot handle s) (λ g. get_or-set_other g.slots handle q s empty (λ h. ne (eqb-true p i e, h))) c.groups i p
      other p q ne false e = alter-others (at q) empty (with_slot handle s) c.groups i p (eqb-false p i e)

pub field_alone : (index handle checksum : ℕ) (name : List ℕ) (c : Content) {d : Content} {t : Increments} → set_field index handle checksum name c ≡ done true d t → PlacedAlone index handle (filled checksum name) c d
unfolding set_field set_field_at index_place
field_alone index handle checksum name c {d} {t} e = go (index_place index c.groups) refl e
  where
    go : (o : Option ℕ) → index_place index c.groups ≡ o → set_field_at handle checksum name c o ≡ done true d t → PlacedAlone index handle (filled checksum name) c d
    go none f e = clash cc
    go (some i) f e = by-space (ltb handle (place_or (λ g. length g.slots) 0 c.groups i)) refl _ _ e
      where
        by-space : (b : Bool) → ltb handle (place_or (λ g. length g.slots) 0 c.groups i) ≡ b → (x y : Increments)
            → cond b (keep true (written c i handle (filled checksum name)) x) (done false c y) ≡ done true d t → PlacedAlone index handle (filled checksum name) c d
        by-space true r x y e = record {
          place = i;
          found = f;
          slot = subst (OneSlot i handle (filled checksum name) c) (kept true _ _ e).1 (one-slot c i handle (filled checksum name) (ltb-true _ _ r));
        }
        by-space false r x y e = clash cc

-- ---- an accepted adding

module _ (path : List ℕ) (index : ℕ) (c : Content) where
  added-last : (slots : ℕ) → OneGroup (length c.groups) path index c (with_groups c (c.groups ++ (new_group path index slots ∷ [])))
  unfolding with_groups new_group
  added-last slots = record {
    own_path = place_or-last (λ g. g.path) [] c.groups _;
    own_index = place_or-last (λ g. g.index) 0 c.groups _;
    others = last-others some none c.groups _;
    guids = refl;
  }

  added-at : (i : ℕ) (f : Group → Group) → i < length c.groups → ((g : Group) → (f g).path ≡ path) → ((g : Group) → (f g).index ≡ index) → OneGroup i path index c (with_groups c (alter f c.groups i))
  unfolding with_groups
  added-at i f below p n = record {
    own_path = alter-own (λ g. g.path) [] f p c.groups i below;
    own_index = alter-own (λ g. g.index) 0 f n c.groups i below;
    others = alter-others some none f c.groups i;
    guids = refl;
  }

  module _ (slots : ℕ) {place : ℕ} {d : Content} {t : Increments} where
    merged-alone : (i : ℕ) → i < length c.groups → merge path index slots c i ≡ done place d t → OneGroup place path index c d
    unfolding merge merged_group
    merged-alone i below e =
        let k = kept _ _ _ e in
        subst₂ (λ (p : ℕ) (x : Content). OneGroup p path index c x) k.0 k.1 (added-at i (merged_group path index slots) below (λ g. refl) (λ g. refl))

    pub group_alone : add_group path index slots c ≡ done place d t → OneGroup place path index c d
    unfolding add_group add_group_at new_group path_place index_place
    group_alone e = go (path_place path c.groups) refl (index_place index c.groups) refl e
      where
        go : (o : Option ℕ) → path_place path c.groups ≡ o → (q : Option ℕ) → index_place index c.groups ≡ q → add_group_at path index slots c o q ≡ done place d t → OneGroup place path index c d
        go none f none h e = let k = kept _ _ _ e in subst₂ (λ (p : ℕ) (x : Content). OneGroup p path index c x) k.0 k.1 (added-last slots)
        go none f (some j) h e =
            let k = kept _ _ _ e in
            let new = new_group path index slots in
            let own = added-at j (λ _. new) (last_place-some _ c.groups h).below (λ g. refl) (λ g. refl) in
            subst₂ (λ (p : ℕ) (x : Content). OneGroup p path index c x) k.0 k.1 (rw (set-alter c.groups j new) own)
        go (some i) f none h e = merged-alone i (last_place-some _ c.groups f).below e
        go (some i) f (some j) h e = by-same (eqb i j) e
          where
            by-same : (b : Bool) → cond b (merge path index slots c i) (refuses 23 index 0) ≡ done place d t → OneGroup place path index c d
            by-same true e = merged-alone i (last_place-some _ c.groups f).below e
            by-same false e = clash cc

-- ---- a GUID's setting

pub guid-alone : (guid : ℕ) (path : List ℕ) (outer : ℕ) (c : Content) {u : Unit {0}} {d : Content} {t : Increments} → set_guid guid path outer c ≡ done u d t → d.groups ≡ c.groups
unfolding set_guid set_guid_at with_guids
guid-alone guid path outer c {u} {d} {t} e = go (guid_place guid c.guids) e
  where
    go : (o : Option ℕ) → set_guid_at guid path outer c o ≡ done u d t → d.groups ≡ c.groups
    go none e = ap (λ (x : Content). x.groups) (sym (kept _ _ _ e).1)
    go (some i) e = by-same (place_or (has_path path outer) false c.guids i) _ _ e
      where
        by-same : (b : Bool) (x y : Increments) → cond b (done tt c x) (keep tt (with_guids c (alter (with_path path outer) c.guids i)) y) ≡ done u d t → d.groups ≡ c.groups
        by-same true x y e = let same : d ≡ c = cc in ap (λ (x : Content). x.groups) same
        by-same false x y e = ap (λ (x : Content). x.groups) (sym (kept _ _ _ e).1)

-- ---- the direct calls

pub field-call-alone : (index handle checksum : ℕ) (name : List ℕ) (c : Content) → (run (set_field_on_group index handle checksum name) c).answer ≡ field_placed true
    → PlacedAlone index handle (filled checksum name) c (run (set_field_on_group index handle checksum name) c).content
unfolding run if_text_accepted of_step unchanged
field-call-alone index handle checksum name c e = go (caller_text name) (set_field index handle checksum name c) refl e
  where
    go : (x : CallerText) (s : Step Bool) → set_field index handle checksum name c ≡ s → (of_step field_placed c (if_text_accepted refuses x s)).answer ≡ field_placed true
        → PlacedAlone index handle (filled checksum name) c (of_step field_placed c (if_text_accepted refuses x s)).content
    go accepted (done true d t) h e = field_alone index handle checksum name c h
    go accepted (done false d t) h e = clash cc
    go accepted (refuses n a b) h e = clash cc
    go (refusal n a b) s h e = clash cc

pub adding-call-alone : (path : List ℕ) (index slots : ℕ) (c : Content) {place : ℕ} → (run (add_export_group path index slots) c).answer ≡ at_place place
    → OneGroup place path index c (run (add_export_group path index slots) c).content
unfolding run if_text_accepted of_step unchanged add_directly
adding-call-alone path index slots c {place} e = go (caller_text path) (add_directly path index slots c) refl e
  where
    direct : {p : ℕ} {d : Content} {t : Increments} (b : Bool) → cond b (refuses 22 slots 0) (add_group path index slots c) ≡ done p d t → OneGroup p path index c d
    direct true h = clash cc
    direct false h = group_alone path index c slots h

    go : (x : CallerText) (s : Step ℕ) → add_directly path index slots c ≡ s → (of_step at_place c (if_text_accepted refuses x s)).answer ≡ at_place place
        → OneGroup place path index c (of_step at_place c (if_text_accepted refuses x s)).content
    go accepted (done p d t) h e = let same : p ≡ place = cc in subst (λ (q : ℕ). OneGroup q path index c d) same (direct (ltb 65536 slots) h)
    go accepted (refuses n a b) h e = clash cc
    go (refusal n a b) s h e = clash cc
