-- The writer's search, `first_clash`, finds the first group whose path is a key of a group before it, and finds none if there is none. Used
-- for the writer's refusals (Laws/Writer.antt, `vrf_writer`).
use Rattle.std.specs.Prelude.{◌≡◌, refl, Bool, true, false, ◌||◌, List, [], ◌∷◌, ◌++◌, ◌↔◌, ℕ, zero, suc, ◌<◌, length, take}
use Rattle.std.proofs.Common.{sym, ap, subst, ◌∙◌, append-nil, zero-le, suc-le-suc, le_of_suc-le-suc, not-suc-le-zero, arith, length-take}
use Rattle.std.proofs.Math.Bool.{or-true}
use Rattle.std.proofs.Math.Option.{Option, none, some}
use Rattle.std.proofs.Math.Seq.{append_snoc}
use Rattle.vrf_bitio.proofs.Laws.Cases.{by_order, clash}
use Rattle.vrf_path.specs.Keys.{has_key}
use Rattle.vrf_model.specs.Book.{Group}
use Rattle.vrf_model.specs.Lookup.{next_place, place_or, path_at}
use Rattle.vrf_model.specs.Writer.{is_key_of, here_or_later, first_clash}
use Rattle.vrf_model.specs.Clash.{Clash, FirstClash, NoClash}
use Rattle.vrf_model.proofs.Laws.Places.{place_or-take}

-- ---- `is_key_of`: a path is a key of one of the groups

key-at : (path : List ℕ) (l : List Group) → is_key_of path l ≡ true → (i : ℕ) × (i < length l) × (has_key (path_at l i) path ≡ true)
unfolding is_key_of place_or
key-at path [] e = clash cc
key-at path (g ∷ l) e = go (has_key g.path path) refl (is_key_of path l) e (key-at path l)
  where
    go : (b : Bool) → has_key g.path path ≡ b → (k : Bool) → (b || k) ≡ true → (k ≡ true → (i : ℕ) × (i < length l) × (has_key (path_at l i) path ≡ true))
        → (i : ℕ) × (i < length (g ∷ l)) × (has_key (path_at (g ∷ l) i) path ≡ true)
    go true h k e rest = (0, suc-le-suc zero-le, h)
    go false h k e rest = let r = rest e in (suc r.0, suc-le-suc r.1, r.2)

at_key : (path : List ℕ) (l : List Group) (i : ℕ) → i < length l → has_key (path_at l i) path ≡ true → is_key_of path l ≡ true
unfolding is_key_of place_or
at_key path [] i h e = absurd (not-suc-le-zero h)
at_key path (g ∷ l) zero h e = rw e
at_key path (g ∷ l) (suc i) h e = rw (at_key path l i (le_of_suc-le-suc h) e) (or-true (has_key g.path path))

-- ---- the search in l, where the groups p come before l

-- whether the path at j of l is a key of a group of p, or of a group before j in l
abbrev clashes : List Group → List Group → ℕ → Bool
clashes p l j = is_key_of (path_at l j) (p ++ take j l)

abbrev First : List Group → List Group → Option ℕ → Type 0
First p l none = (k : ℕ) → k < length l → clashes p l k ≡ false
First p l (some j) = (j < length l) × (clashes p l j ≡ true) × ((k : ℕ) → k < j → clashes p l k ≡ false)

first : (p l : List Group) → First p l (first_clash p l)
unfolding first_clash here_or_later next_place place_or
first p [] = λ k h. absurd (not-suc-le-zero h)
first p (g ∷ l) = go (is_key_of g.path p) refl (first_clash (p ++ (g ∷ [])) l) (first (p ++ (g ∷ [])) l)
  where
    here : {b : Bool} → is_key_of g.path p ≡ b → clashes p (g ∷ l) 0 ≡ b
    here e = rw (append-nil p) e

    later : (k : ℕ) {b : Bool} → clashes (p ++ (g ∷ [])) l k ≡ b → clashes p (g ∷ l) (suc k) ≡ b
    later k e = ap (is_key_of (path_at l k)) (sym (append_snoc p g (take k l))) ∙ e

    go : (b : Bool) → is_key_of g.path p ≡ b → (o : Option ℕ) → First (p ++ (g ∷ [])) l o → First p (g ∷ l) (here_or_later b o)
    go true e o h = (suc-le-suc zero-le, here e, λ k m. absurd (not-suc-le-zero m))
    go false e none h = elim [ zero ↦ λ m. here e | suc k ↦ λ m. later k (h k (le_of_suc-le-suc m)) ]
    go false e (some j) h = (suc-le-suc h.0, later j h.1, elim [ zero ↦ λ m. here e | suc k ↦ λ m. later k (h.2 k (le_of_suc-le-suc m)) ])

-- ---- refusal 44 as Clash.antt states it

module _ (groups : List Group) where
  clash-clashes : {i j : ℕ} → Clash groups i j → clashes [] groups j ≡ true
  clash-clashes {i} {j} c =
      let inside : i < length (take j groups) = rw (length-take j groups) (omega (arith, c.before, c.below)) in
      at_key (path_at groups j) (take j groups) i inside (rw (place_or-take (λ (g : Group). g.path) [] groups j i c.before) c.key)

  clashes-clash : {j : ℕ} → j < length groups → clashes [] groups j ≡ true → (i : ℕ) × Clash groups i j
  clashes-clash {j} below e =
      let r = key-at (path_at groups j) (take j groups) e in
      let before : r.0 < j = omega (arith, rw (length-take j groups) at r.1) in
      (r.0, record { before = before; below = below; key = rw (place_or-take (λ (g : Group). g.path) [] groups j r.0 before) at r.2 })

  -- a clash at j contradicts that the search found none at j
  not-clear : {P : Type 0} {i j : ℕ} → Clash groups i j → clashes [] groups j ≡ false → P
  not-clear c e = clash (cc (clash-clashes c, e))

  pub first-clash : (j : ℕ) → (first_clash [] groups ≡ some j) ↔ FirstClash groups j
  first-clash j = (to, λ f. from f (first_clash [] groups) (first [] groups))
    where
      to : first_clash [] groups ≡ some j → FirstClash groups j
      to e =
          let f = subst (First [] groups) e (first [] groups) in
          let c = clashes-clash f.0 f.1 in
          record { earlier = c.0; clash = c.1; least = λ i k x. by_order j k (λ h. h) (λ h. not-clear x (f.2 k h)) }

      from : FirstClash groups j → (o : Option ℕ) → First [] groups o → o ≡ some j
      from f none h = not-clear f.clash (h j f.clash.below)
      from f (some k) h =
          let c = clashes-clash h.0 h.1 in
          by_order k j (λ m. let e : k ≡ j = omega (arith, m, f.least c.0 k c.1) in ap some e) (λ m. not-clear f.clash (h.2 j m))

  pub no-clash : (first_clash [] groups ≡ none) ↔ NoClash groups
  no-clash = (λ e i j c. not-clear c (subst (First [] groups) e (first [] groups) j c.below), λ n. from n (first_clash [] groups) (first [] groups))
    where
      from : NoClash groups → (o : Option ℕ) → First [] groups o → o ≡ none
      from n none h = refl
      from n (some k) h = let c = clashes-clash h.0 h.1 in absurd (n c.0 k c.1)
