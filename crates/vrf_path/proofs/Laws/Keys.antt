-- Laws of keys: the search for separators, the aliases by cases, their lengths, and when a text is a key of a path.
use Rattle.std.specs.Prelude.{◌≡◌, Bool, true, false, ◌||◌, ◌⊎◌, ℕ, zero, suc, ◌+◌, ◌-◌, ◌<◌, ◌≤◌, length, get_or, take, drop, Some, None}
use Rattle.std.proofs.Math.Path.{refl}
use Rattle.std.proofs.Common.{sym, ap, ◌∙◌, inl, inr, ⊎_elim, add-one, arith, drop_of_length-le, length-append, length-take, length-drop, drop-drop}
use Rattle.std.proofs.Math.Bool.{or-false}
use mathlib.Core.List.{List, [], ◌∷◌, ◌++◌, Option-to_list}
use Rattle.std.proofs.Math.Option.{Option, none, some}
use Prim.Native.Char.{code}
use Rattle.std.proofs.Math.Seq.{drop-cons}
use Rattle.vrf_bitio.proofs.Laws.Cases.{by-test, clash, neither}
use Rattle.vrf_path.specs.Text.{same, starts_with, first_from}
use Rattle.vrf_path.specs.Keys.{is_separator, has_separator, default_prefix, characters_root, characters_core, core_segment, default_alias, core_alias_at, core_alias, keys, is_one_of, has_key, key_is}
use Rattle.vrf_path.specs.Answers.{default_key, core_key_at, core_key, KeyAnswer}
use Rattle.vrf_path.proofs.Laws.Text.{same-lengths, same_true, starts-length, first-within}
use Rattle.vrf_path.specs.declared.Key.TheVariants.{Stripped, Prefixed, Cut, Inserted}

-- the search for separators, one place at a time
module _ (t : List ℕ) (i : ℕ) where
  pub separator-next : i < length t → has_separator (drop i t) ≡ (is_separator (get_or t i 0) || has_separator (drop (i + 1) t))
  unfolding has_separator
  separator-next h = rw (add-one, drop-cons t i 0 h)

  pub separator-nowhere : length t ≤ i → has_separator (drop i t) ≡ false
  unfolding has_separator
  separator-nowhere h = rw (drop_of_length-le t h)

-- two steps of a search as one step
pub or-joined : {a b : Bool} (x y c : Bool) → a ≡ (x || b) → b ≡ (y || c) → a ≡ ((x || y) || c)
or-joined true y c ea eb = ea
or-joined false y c ea eb = ea ∙ eb

pub four-next : (t : List ℕ) (i : ℕ) → i + 4 ≤ length t → {a b c d : Bool} → a ≡ is_separator (get_or t i 0) → b ≡ is_separator (get_or t (i + 1) 0)
    → c ≡ is_separator (get_or t (i + 2) 0) → d ≡ is_separator (get_or t (i + 3) 0) → has_separator (drop i t) ≡ ((((a || b) || c) || d) || has_separator (drop (i + 4) t))
four-next t i h {a} {b} {c} {d} ea eb ec ed =
    let z2 : i + 1 + 1 ≡ i + 2 = omega arith in
    let z3 : i + 2 + 1 ≡ i + 3 = omega arith in
    let z4 : i + 3 + 1 ≡ i + 4 = omega arith in
    or-joined ((a || b) || c) d _
    (or-joined (a || b) c _
    (or-joined a b _
    (rw (← ea) at (separator-next t i (omega arith)))
    (rw (← eb, z2) at (separator-next t (i + 1) (omega arith))))
    (rw (← ec, z3) at (separator-next t (i + 2) (omega arith))))
    (rw (← ed, z4) at (separator-next t (i + 3) (omega arith)))

separators-drop : (n : ℕ) (t : List ℕ) → has_separator t ≡ false → has_separator (drop n t) ≡ false
unfolding has_separator
separators-drop zero t h = h
separators-drop (suc n) [] h = h
separators-drop (suc n) (b ∷ t) h = separators-drop n t (neither (is_separator b) (has_separator t) h).1

-- where the bytes from i to j are tested, the last step may start at an earlier place p, and test some of them again
module _ (t : List ℕ) (i p j : ℕ) (hp : i ≤ p) (hj : p ≤ j) where
  from-later : (a b : ℕ) → a ≤ b → has_separator (drop a t) ≡ false → has_separator (drop b t) ≡ false
  from-later a b h e =
      let following : a + (b - a) ≡ b = omega arith in
      ap has_separator (sym (drop-drop (b - a) a t ∙ ap (λ (k : ℕ). drop k t) following)) ∙ separators-drop (b - a) (drop a t) e

  pub separators-end : has_separator (drop i t) ≡ has_separator (drop j t) → (x : Bool) → has_separator (drop p t) ≡ x → has_separator (drop i t) ≡ x
  separators-end before true e = by-test (has_separator (drop i t)) (λ y. y) (λ y. y ∙ sym (from-later i p hp y) ∙ e)
  separators-end before false e = before ∙ from-later p j hj e

  pub separators-or : (x y : Bool) → has_separator (drop i t) ≡ (x || has_separator (drop j t)) → has_separator (drop p t) ≡ y → has_separator (drop i t) ≡ (x || y)
  separators-or true y e ey = e
  separators-or false y e ey = separators-end e y ey

-- the default alias by cases
module _ (t : List ℕ) where
  pub default-stripped : starts_with default_prefix t ≡ true → KeyAnswer t default_alias default_key (Some Stripped)
  unfolding default_alias default_key default_prefix
  default-stripped e = record { text = rw e; made = rw e }

  module _ (e : starts_with default_prefix t ≡ false) where
    pub default_none : has_separator t ≡ true → KeyAnswer t default_alias default_key None
    unfolding default_alias default_key
    default_none h = record { text = rw (e, h); made = rw (e, h) }

    pub default-prefixed : has_separator t ≡ false → KeyAnswer t default_alias default_key (Some Prefixed)
    unfolding default_alias default_key
    default-prefixed h = record { text = rw (e, h); made = rw (e, h) }

-- the core alias by cases
module _ (t : List ℕ) where
  pub core-cut : {i : ℕ} → first_from core_segment 0 t ≡ some i → KeyAnswer t core_alias core_key (Some (Cut i))
  unfolding core_alias core_alias_at core_key core_key_at core_segment
  core-cut e = record { text = rw e; made = rw e }

  module _ (e : first_from core_segment 0 t ≡ none) where
    pub core-inserted : starts_with characters_root t ≡ true → KeyAnswer t core_alias core_key (Some Inserted)
    unfolding core_alias core_alias_at core_key core_key_at characters_root
    core-inserted h = record { text = rw (e, h); made = rw (e, h) }

    pub core-none : starts_with characters_root t ≡ false → KeyAnswer t core_alias core_key None
    unfolding core_alias core_alias_at core_key core_key_at
    core-none h = record { text = rw (e, h); made = rw (e, h) }

-- the length of an alias: `Default__` has 9 bytes and `_Core/` has 6
pub default-length : (t : List ℕ) {k : List ℕ} → default_alias t ≡ some k → (length k + 9 ≡ length t) ⊎ (length k ≡ length t + 9)
unfolding default_prefix
default-length t {k} e = by-test (starts_with default_prefix t)
    (λ ex. let ek : k ≡ drop 9 t = cc (default-stripped t ex).text in inl (rw (ek, length-drop) (omega (arith, starts-length default_prefix t ex))))
    (λ ex. by-test (has_separator t) (λ ey. clash (cc (default_none t ex ey).text))
    (λ ey. let ek : k ≡ default_prefix ++ t = cc (default-prefixed t ex ey).text in inr (rw ek (omega arith))))

pub core-length : (t : List ℕ) {k : List ℕ} → core_alias t ≡ some k → (length k + 6 ≡ length t) ⊎ (length k ≡ length t + 6)
unfolding core_segment characters_root characters_core
core-length t {k} e = by (first_from core_segment 0 t) refl (starts_with characters_root t) refl
  where
    by : (x : Option ℕ) → first_from core_segment 0 t ≡ x → (y : Bool) → starts_with characters_root t ≡ y → (length k + 6 ≡ length t) ⊎ (length k ≡ length t + 6)
    by (some i) ex y ey =
        let ek : k ≡ take i t ++ (code "/" ∷ drop (i + 7) t) = cc (core-cut t ex).text in
        inl (rw ek (simp (length-append, length-take, length-drop) (omega (arith, first-within core_segment t 0 ex))))
    by none ex true ey =
        let ek : k ≡ characters_core ++ drop 17 t = cc (core-inserted t ex ey).text in
        inr (rw ek (simp length-drop (omega (arith, starts-length characters_root t ey))))
    by none ex false ey = clash (cc (core-none t ex ey).text)

-- a text is not the core alias if its length differs by anything other than 6
pub core-other : (t k : List ℕ) → (length k + 6 ≡ length t → ⊥) → (length t + 6 ≡ length k → ⊥) → key_is (core_alias t) k ≡ false
unfolding key_is
core-other t k hl hs = by (core_alias t) refl
  where
    by : (o : Option (List ℕ)) → core_alias t ≡ o → key_is o k ≡ false
    by none e = refl
    by (some s) e = same-lengths s k (λ es. ⊎_elim (λ h. hl (omega arith)) (λ h. hs (omega arith)) (core-length t e))

-- a text is a path's key if it is the path, its default alias or its core alias
module _ (t k : List ℕ) where
  among-option : (o : Option (List ℕ)) (l : List (List ℕ)) → is_one_of k (Option-to_list o ++ l) ≡ (key_is o k || is_one_of k l)
  unfolding is_one_of key_is Option-to_list
  among-option none l = refl
  among-option (some s) l = refl

  among-last : (o : Option (List ℕ)) → is_one_of k (Option-to_list o) ≡ key_is o k
  unfolding is_one_of key_is Option-to_list
  among-last none = refl
  among-last (some s) = or-false (same s k)

  pub has-by-parts : has_key t k ≡ (same t k || (key_is (default_alias t) k || key_is (core_alias t) k))
  unfolding has_key keys is_one_of
  has-by-parts = rw (among-option (default_alias t) (Option-to_list (core_alias t)), among-last (core_alias t))

pub the-true : (o : Option (List ℕ)) (k : List ℕ) → key_is o k ≡ true → o ≡ some k
unfolding key_is
the-true none k h = clash (cc)
the-true (some s) k h = ap some (same_true s k h)

module _ (t k : List ℕ) where
  pub has-cases : has_key t k ≡ true → (t ≡ k) ⊎ ((default_alias t ≡ some k) ⊎ (core_alias t ≡ some k))
  has-cases e =
      by-test (same t k) (λ ex. inl (same_true t k ex)) (λ ex.
      by-test (key_is (default_alias t) k) (λ ey. inr (inl (the-true (default_alias t) k ey))) (λ ey.
      by-test (key_is (core_alias t) k) (λ ez. inr (inr (the-true (core_alias t) k ez))) (λ ez. clash (cc (sym (rw (ex, ey, ez) at (has-by-parts t k)) ∙ e)))))
