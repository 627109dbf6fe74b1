-- The searches of the code, one claim or key at a time, give what the model's searches over lists give. Used by the proofs of `resolve`.
use Rattle.std.specs.Prelude.{◌≡◌, ◌≢◌, Bool, true, false, ◌&&◌, cond, ℕ, zero, suc, ◌+◌, ◌<◌, ◌≤◌, length, take, get_or, eqb, ltb, Some}
use Rattle.std.specs.Prelude.{Option as Maybe}
use Rattle.std.proofs.Math.Path.{refl, sym, ap}
use Rattle.std.specs.List.{All}
use Rattle.std.proofs.Common.{◌∙◌, ⊎_elim, arith, length-take}
use Rattle.std.proofs.lemmas.List.Elements.{All-nil, All-cons, All-append}
use Prim.Native.Char.{code}
use mathlib.Core.List.{List, [], ◌∷◌, ◌++◌, append_assoc, append-nil, Option-to_list}
use Rattle.std.proofs.Math.Option.{Option, none, some}
use Rattle.vrf_bitio.proofs.Laws.Cases.{clash}
use Rattle.vrf_path.specs.Keys.{is_separator, has_separator, keys, default_alias, core_alias}
use Rattle.vrf_path.specs.Toggle.{class_net_cache, toggle, with_toggles, class_net_cache_keys}
use Rattle.vrf_path.specs.Stems.{stems, cuts_below, capital_stems, digit_stems, digits_from, is_capital, component, underscore_c, stem_leaves, name_leaves}
use Rattle.vrf_path.specs.Base.{class_base, leaf_base}
use Rattle.vrf_path.specs.Answers.{Front, stems_after, stems_from}
use Rattle.vrf_path.specs.declared.Stem.{Stem}
use Rattle.vrf_path.proofs.Laws.Keys.{default-length, core-length}
use Rattle.vrf_path.proofs.Laws.Leaf.{separatorless, separators-append, separators-take}
use Rattle.vrf_path.proofs.Laws.Base.{base-component, base-underscore, base-cache, base-component-cache, base-underscore-cache}
use Rattle.vrf_model.specs.Book.{Group}
use Rattle.vrf_model.specs.Lookup.{Claim, absent as noClaim, ambiguous, claimed, leaf_claim, claim_or_next, first_claim, stems_leaves, unique_leaf_match, resolve_cnc, found_or_next, path_place, first_path}
use Rattle.vrf_model.specs.Lookup.{find_class_net_cache_key}
use Rattle.vrf_table.specs.Inner.Index.{claim_or_later}
use Rattle.vrf_table.specs.Inner.Answers.{claim, Suffixed}
use Rattle.vrf_table.specs.declared.Claim.{Claim as Code}
use Rattle.vrf_table.specs.declared.Claim.TheVariants.{Absent, Ambiguous, Only}
use Rattle.vrf_store.specs.Inner.Lookups.{NameLeaves}
use Rattle.vrf_cache.specs.Inner.Resolve.{Bare, AtMost, decides, first_of, with_toggle, by_alias}

-- ---- claims

-- a claim of the code decides unless it is absent
pub decides-found : (r : Code) → (r ≡ Absent → decides (claim r) ≡ false) × (r ≢ Absent → decides (claim r) ≡ true)
unfolding decides
decides-found Absent = (λ e. refl, λ h. absurd (h refl))
decides-found Ambiguous = (λ e. clash (cc), λ h. refl)
decides-found (Only i) = (λ e. clash (cc), λ h. refl)

decided : (c : Claim) (o : Option ℕ) → claim_or_next c o ≡ cond (decides c) (claim_or_next c none) o
unfolding claim_or_next decides
decided noClaim o = refl
decided ambiguous o = refl
decided (claimed i) o = refl

next-of-later : (a b : Claim) (o : Option ℕ) → claim_or_next (claim_or_later a b) o ≡ claim_or_next a (claim_or_next b o)
unfolding claim_or_next claim_or_later
next-of-later noClaim b o = refl
next-of-later ambiguous b o = refl
next-of-later (claimed i) b o = refl

later-absent : (a : Claim) → claim_or_later a noClaim ≡ a
unfolding claim_or_later
later-absent noClaim = refl
later-absent ambiguous = refl
later-absent (claimed i) = refl

module _ (groups : List Group) where
  -- three leaves, tried in turn
  in-turn : {c : Claim} (s t u : List ℕ) → c ≡ claim_or_later (leaf_claim s groups) (claim_or_later (leaf_claim t groups) (leaf_claim u groups)) → c ≡ first_of groups (s ∷ t ∷ u ∷ [])
  unfolding first_of
  in-turn s t u e = e ∙ rw (later-absent (leaf_claim u groups))

  pub stem-in-turn : {c : Claim} (s : List ℕ) → c ≡ claim_or_later (leaf_claim (s ++ class_net_cache) groups) (claim_or_later (leaf_claim (s ++ (component ++ class_net_cache)) groups) (leaf_claim (s ++ (underscore_c ++ class_net_cache)) groups)) → c ≡ first_of groups (stem_leaves s)
  unfolding stem_leaves
  stem-in-turn s e = in-turn (s ++ class_net_cache) (s ++ (component ++ class_net_cache)) (s ++ (underscore_c ++ class_net_cache)) e

  pub name-in-turn : {c : Claim} (s : List ℕ) → c ≡ claim_or_later (leaf_claim (s ++ []) groups) (claim_or_later (leaf_claim (s ++ component) groups) (leaf_claim (s ++ underscore_c) groups)) → c ≡ first_of groups (name_leaves s)
  unfolding name_leaves
  name-in-turn s e = in-turn s (s ++ component) (s ++ underscore_c) (rw (append-nil s) at e)

  -- the leaves a, then the leaves b
  first-append : (a b : List (List ℕ)) → first_claim groups (a ++ b) ≡ claim_or_next (first_of groups a) (first_claim groups b)
  unfolding first_claim first_of claim_or_next
  first-append [] b = refl
  first-append (l ∷ a) b = rw (first-append a b) (sym (next-of-later (leaf_claim l groups) (first_of groups a) (first_claim groups b)))

  -- the leaves a alone
  first_alone : (a : List (List ℕ)) → first_claim groups a ≡ claim_or_next (first_of groups a) none
  unfolding first_claim
  first_alone a = sym (ap (first_claim groups) (append-nil a)) ∙ first-append a []

  -- the claim of a stem's leaves decides, or those of the stems that follow do
  module _ {x : Option ℕ} {c : Claim} (s : List ℕ) (ss : List (List ℕ)) (ex : x ≡ first_claim groups (stems_leaves (s ∷ ss))) (ec : c ≡ first_of groups (stem_leaves s)) where
    stem-first : x ≡ cond (decides c) (claim_or_next c none) (first_claim groups (stems_leaves ss))
    unfolding stems_leaves
    stem-first = cc (first-append (stem_leaves s) (stems_leaves ss), decided c (first_claim groups (stems_leaves ss)))

    pub stem-decides : decides c ≡ true → x ≡ claim_or_next c none
    stem-decides h = rw h at stem-first

    pub stem-passes : {l : List (List ℕ)} → decides c ≡ false → ss ≡ l → x ≡ first_claim groups (stems_leaves l)
    stem-passes h el = rw (h, el) at stem-first

  pub no-stems : first_claim groups (stems_leaves []) ≡ none
  unfolding first_claim stems_leaves
  no-stems = refl

-- a stem leaves fewer stems than it began with
pub stems-fewer : (name : List ℕ) (s : Stem) (t : Maybe Stem) → stems_after name s.len s.phase ≡ stems_from name t
    → length (stems_from name t) < length (stems_from name (Some s))
stems-fewer name s t e = rw (← e) (omega arith)

-- names with and without a separator
module _ (name : List ℕ) (groups : List Group) where
  module _ (h : has_separator name ≡ true) where
    pub match-path : none ≡ unique_leaf_match name groups
    unfolding unique_leaf_match
    match-path = rw h

    pub resolve-path : none ≡ resolve_cnc name groups
    unfolding resolve_cnc
    resolve-path = rw h

  module _ (h : has_separator name ≡ false) where
    pub match-name : {c : Claim} → c ≡ first_of groups (name_leaves name) → claim_or_next c none ≡ unique_leaf_match name groups
    unfolding unique_leaf_match
    match-name e = rw (h, e) (sym (first_alone groups (name_leaves name)))

    pub resolve-name : {l : List (List ℕ)} → stems name ≡ l → resolve_cnc name groups ≡ first_claim groups (stems_leaves l)
    unfolding resolve_cnc
    resolve-name e = rw (h, e)

-- ---- the stems of a bare name

-- a text that can be tried as a stem
abbrev pub Triable : List ℕ → Type 0
Triable s = Bare s × (length s ≤ 4096)

module _ (name : List ℕ) (bare : Bare name) (few : length name ≤ 4096) where
  front : (n : ℕ) → Triable (take n name)
  front n = (separators-take n name bare, rw length-take (omega arith))

  either : (b : Bool) (x y : List (List ℕ)) → All Triable x → All Triable y → All Triable (cond b x y)
  either true x y h k = h
  either false x y h k = k

  cuts-triable : (n : ℕ) → All Triable (cuts_below name n)
  unfolding cuts_below
  cuts-triable zero = All-nil Triable
  cuts-triable (suc zero) = All-nil Triable
  cuts-triable (suc (suc i)) =
      let rest = cuts-triable (suc i) in
      either (eqb (get_or name (suc i) 0) (code "_")) (take (suc i) name ∷ cuts_below name (suc i)) (cuts_below name (suc i)) (All-cons Triable (take (suc i) name) (cuts_below name (suc i)) (front (suc i)) rest) rest

  capital-triable : (n : ℕ) → All Triable (capital_stems name n)
  unfolding capital_stems
  capital-triable zero = All-nil Triable
  capital-triable (suc zero) = All-nil Triable
  capital-triable (suc (suc i)) = either (is_capital (get_or name (suc i) 0)) (take (suc i) name ∷ []) [] (All-cons Triable (take (suc i) name) [] (front (suc i)) (All-nil Triable)) (All-nil Triable)

  digits-triable : (n : ℕ) → All Triable (digit_stems name n)
  unfolding digit_stems
  digits-triable n = either (ltb 0 n && ltb n (length name)) (take n name ∷ capital_stems name n) [] (All-cons Triable (take n name) (capital_stems name n) (front n) (capital-triable n)) (All-nil Triable)

  pub stems-triable : All Triable (stems name)
  unfolding stems
  stems-triable =
      let cuts = cuts_below name (length name) in
      let digits = digit_stems name (digits_from name (length name)) in
      All-cons Triable name (cuts ++ digits) (bare, few) (All-append Triable cuts digits (cuts-triable (length name)) (digits-triable (digits_from name (length name))))

-- ---- keys

else-assoc : (a b c : Option ℕ) → found_or_next (found_or_next a b) c ≡ found_or_next a (found_or_next b c)
unfolding found_or_next
else-assoc none b c = refl
else-assoc (some i) b c = refl

else-none : (a : Option ℕ) → found_or_next a none ≡ a
unfolding found_or_next
else-none none = refl
else-none (some i) = refl

toggles-append : (a b : List (List ℕ)) → with_toggles (a ++ b) ≡ with_toggles a ++ with_toggles b
unfolding with_toggles
toggles-append [] b = refl
toggles-append (k ∷ a) b = rw (toggles-append a b, append_assoc)

module _ (groups : List Group) where
  path-append : (a b : List (List ℕ)) → first_path groups (a ++ b) ≡ found_or_next (first_path groups a) (first_path groups b)
  unfolding first_path found_or_next
  path-append [] b = refl
  path-append (k ∷ a) b = rw (path-append a b) (sym (else-assoc (path_place k groups) (first_path groups a) (first_path groups b)))

  -- an optional text as the only key
  pub path-alone : {o : Option (List ℕ)} {k : List ℕ} → o ≡ some k → first_path groups (Option-to_list o) ≡ path_place k groups
  unfolding first_path Option-to_list
  path-alone {o} {k} e = rw e (else-none (path_place k groups))

  pub path-missing : {o : Option (List ℕ)} → o ≡ none → first_path groups (Option-to_list o) ≡ none
  unfolding first_path Option-to_list
  path-missing e = rw e

  -- a key, then its toggle
  pub toggle-turn : (k : List ℕ) → with_toggle groups (some k) ≡ found_or_next (path_place k groups) (first_path groups (Option-to_list (toggle k)))
  unfolding with_toggle with_toggles first_path Option-to_list
  toggle-turn k = rw (append-nil (Option-to_list (toggle k)))

  pub toggle-none : {o : Option (List ℕ)} → o ≡ none → with_toggle groups o ≡ none
  unfolding with_toggle with_toggles first_path Option-to_list
  toggle-none e = rw e

  -- a path's default alias, then its core alias
  pub alias-turn : (path : List ℕ) {a : Option (List ℕ)} {x : Option ℕ} → a ≡ default_alias path → with_toggle groups a ≡ x → by_alias groups path ≡ found_or_next x (with_toggle groups (core_alias path))
  unfolding by_alias
  alias-turn path ea ex = rw (← ea, ex)

  -- a path, then its aliases
  pub keys-turn : (path : List ℕ) → find_class_net_cache_key path groups ≡ found_or_next (with_toggle groups (some path)) (by_alias groups path)
  unfolding find_class_net_cache_key class_net_cache_keys keys with_toggle by_alias Option-to_list
  keys-turn path =
      let d : List (List ℕ) = Option-to_list (default_alias path) in
      let c : List (List ℕ) = Option-to_list (core_alias path) in
      ap (first_path groups) (toggles-append (path ∷ []) (d ++ c))
      ∙ path-append (with_toggles (path ∷ [])) (with_toggles (d ++ c))
      ∙ rw (toggles-append d c, path-append (with_toggles d) (with_toggles c))

-- a wider bound
pub at-most : {n m : ℕ} → n ≤ m → (o : Option (List ℕ)) → AtMost n o → AtMost m o
at-most le none h = tt
at-most le (some k) h = omega (arith, le, h)

-- an alias is at most 9 bytes longer than the path
module _ (t : List ℕ) where
  shorter : (o : Option (List ℕ)) → ((k : List ℕ) → o ≡ some k → length k ≤ length t + 9) → AtMost (length t + 9) o
  shorter none h = tt
  shorter (some k) h = h k refl

  module _ {o : Option (List ℕ)} where
    pub default-fits : o ≡ default_alias t → AtMost (length t + 9) o
    default-fits e = shorter o (λ k h. ⊎_elim (λ a. omega arith) (λ a. omega arith) (default-length t (sym e ∙ h)))

    pub core-fits : o ≡ core_alias t → AtMost (length t + 9) o
    core-fits e = shorter o (λ k h. ⊎_elim (λ a. omega arith) (λ a. omega arith) (core-length t (sym e ∙ h)))

-- ---- the leaves of a name and of a stem

module _ (s : List ℕ) (bare : has_separator s ≡ false) (few : length s ≤ 4096) where
  suffixed : (t : List ℕ) → has_separator t ≡ false → length t ≤ 23 → Suffixed s t
  suffixed t h k = (separatorless (s ++ t) (separators-append s t bare h), omega arith)

  pub name-leaves : {n : ℕ} → Front (leaf_base s) s n → NameLeaves s n [] component underscore_c
  unfolding has_separator is_separator component underscore_c
  name-leaves f = record {
    first = suffixed [] refl (omega arith);
    second = suffixed component refl (omega arith);
    third = suffixed underscore_c refl (omega arith);
    within = f.1;
    short = omega arith;
    base_first = f.0 ∙ ap leaf_base (sym (append-nil s));
    base_second = sym (base-component s);
    base_third = sym (base-underscore s);
  }

  pub stem-leaves : {n : ℕ} → Front (class_base s) s n → NameLeaves s n class_net_cache (component ++ class_net_cache) (underscore_c ++ class_net_cache)
  unfolding has_separator is_separator component underscore_c class_net_cache
  stem-leaves f = record {
    first = suffixed class_net_cache refl (omega arith);
    second = suffixed (component ++ class_net_cache) refl (omega arith);
    third = suffixed (underscore_c ++ class_net_cache) refl (omega arith);
    within = f.1;
    short = omega arith;
    base_first = f.0 ∙ sym (base-cache s);
    base_second = sym (base-component-cache s);
    base_third = sym (base-underscore-cache s);
  }
