-- Laws of stems, one place at a time. `cuts-last` is the loop of resolve.rs: after a stem comes that stem cut at its last `_`, as long as
-- this `_` is above place 0.
use Rattle.std.specs.Prelude.{◌≡◌, refl, Bool, false, cond, ◌&&◌, List, [], ◌∷◌, ℕ, zero, suc, ◌<◌, ◌≤◌, eqb, ltb, length, get_or, take}
use Rattle.std.specs.List.{All}
use Rattle.std.proofs.lemmas.List.Elements.{All-nil, All-cons, All-append}
use Rattle.std.proofs.Math.Seq.{take-length}
use Rattle.std.proofs.Common.{sym, ap, ◌∙◌, ⊎_elim, eq-or-lt_of_le, arith}
use Rattle.std.proofs.Math.Bool.{true}
use Rattle.std.proofs.Math.Option.{Option, none, some}
use Prim.Native.Char.{code}
use Rattle.std.proofs.Math.ListN.{get_or-eq_default}
use borrow.Author.Tests.{lt-ltb, le-ltb, le-leb, lt-leb}
use Rattle.vrf_bitio.proofs.Laws.Cases.{by_cond, by_order, clash}
use Rattle.vrf_path.specs.Text.{last_below}
use Rattle.vrf_path.specs.Stems.{cuts_below, is_digit, is_capital, digits_from, capital_stems, digit_stems, stems}
use Rattle.vrf_path.specs.Answers.{rule_at}
use Rattle.vrf_path.specs.declared.Phase.TheVariants.{Underscore, Digits, Capital}

-- the stems cut at the last `_` and before it, by the place of that `_`
abbrev pub cut_at : List ℕ → Option ℕ → List (List ℕ)
cut_at name none = []
cut_at name (some zero) = []
cut_at name (some (suc i)) = take (suc i) name ∷ cuts_below name (suc i)

pub cuts-last : (name : List ℕ) (n : ℕ) → cuts_below name n ≡ cut_at name (last_below (code "_") name n)
unfolding cuts_below last_below
cuts-last name zero = refl
cuts-last name (suc zero) = by (eqb (get_or name 0 0) (code "_"))
  where
    by : (x : Bool) → [] ≡ cut_at name (cond x (some 0) none)
    by true = refl
    by false = refl
cuts-last name (suc (suc i)) = by (eqb (get_or name (suc i) 0) (code "_")) (cuts-last name (suc i))
  where
    by : (x : Bool) → cuts_below name (suc i) ≡ cut_at name (last_below (code "_") name (suc i))
        → cond x (take (suc i) name ∷ cuts_below name (suc i)) (cuts_below name (suc i)) ≡ cut_at name (cond x (some (suc i)) (last_below (code "_") name (suc i)))
    by true e = refl
    by false e = e

-- there is no `_` past the end
cuts-past-one : (name : List ℕ) (n : ℕ) → length name ≤ n → cuts_below name (suc n) ≡ cuts_below name n
unfolding cuts_below
cuts-past-one name zero h = refl
cuts-past-one name (suc i) h = rw (get_or-eq_default name 0 h)

pub cuts-past : (name : List ℕ) (n : ℕ) → length name ≤ n → cuts_below name n ≡ cuts_below name (length name)
cuts-past name zero h = ap (cuts_below name) (omega arith)
cuts-past name (suc n) h = go (cuts-past name n)
  where
    go : (length name ≤ n → cuts_below name n ≡ cuts_below name (length name)) → cuts_below name (suc n) ≡ cuts_below name (length name)
    go earlier = ⊎_elim (λ e. ap (cuts_below name) (sym e)) (λ l. let hn : length name ≤ n = omega arith in cuts-past-one name n hn ∙ earlier hn) (eq-or-lt_of_le h)

-- the search for the trailing digits, one place at a time, from the end
module _ (name : List ℕ) {i : ℕ} (j : ℕ) (e : i ≡ suc j) where
  pub digits-end : is_digit (get_or name j 0) ≡ false → digits_from name i ≡ i
  unfolding digits_from
  digits-end h = rw (e, h)

  pub digits-earlier : is_digit (get_or name j 0) ≡ true → digits_from name i ≡ digits_from name j
  unfolding digits_from
  digits-earlier h = rw (e, h)

pub digits-all : (name : List ℕ) (i : ℕ) → i ≤ 0 → digits_from name i ≡ 0
unfolding digits_from
digits-all name i h = let z : i ≡ 0 = omega arith in rw z

-- the stem without trailing digits, by cases
module _ (name : List ℕ) (n : ℕ) where
  pub digit-empty : n ≡ 0 → digit_stems name n ≡ []
  unfolding digit_stems
  digit-empty e = rw e

  module _ (h : 0 < n) where
    pub digit-none : length name ≤ n → digit_stems name n ≡ []
    unfolding digit_stems
    digit-none l = rw (lt-ltb 0 n h, le-ltb n (length name) l)

    pub digit-some : n < length name → digit_stems name n ≡ take n name ∷ capital_stems name n
    unfolding digit_stems
    digit-some l = rw (lt-ltb 0 n h, lt-ltb n (length name) l)

-- the stem without a capital, by cases
pub capital-short : (name : List ℕ) (n : ℕ) → n < 2 → capital_stems name n ≡ []
unfolding capital_stems
capital-short name zero h = refl
capital-short name (suc zero) h = refl
capital-short name (suc (suc n)) h = absurd (omega arith)

pub capital-past : (name : List ℕ) (n : ℕ) → length name < n → capital_stems name n ≡ []
unfolding capital_stems is_capital
capital-past name zero h = refl
capital-past name (suc zero) h = refl
capital-past name (suc (suc i)) h = let l : length name ≤ suc i = omega arith in rw (get_or-eq_default name 0 l)

pub capital-at : (name : List ℕ) {n : ℕ} (j : ℕ) → n ≡ suc j → 0 < j → capital_stems name n ≡ cond (is_capital (get_or name j 0)) (take j name ∷ []) []
unfolding capital_stems
capital-at name zero e h = absurd (omega arith)
capital-at name (suc i) e h = rw e

-- ---- the rule of a stem, by the byte after it

-- the byte after the part without trailing digits is a digit
digit-following : (name : List ℕ) (k : ℕ) → digits_from name k < k → is_digit (get_or name (digits_from name k) 0) ≡ true
unfolding digits_from
digit-following name zero h = absurd (omega arith)
digit-following name (suc i) h =
    by_cond (λ (k : ℕ). k < suc i → is_digit (get_or name k 0) ≡ true) (is_digit (get_or name i 0))
    (λ e h. ⊎_elim (λ here. rw here e) (digit-following name i) (eq-or-lt_of_le (omega arith))) (λ e h. absurd (omega arith)) h

capital-no-digit : (b : ℕ) → is_capital b ≡ true → is_digit b ≡ false
unfolding is_digit is_capital
capital-no-digit b e = by_order (code "A") b
    (λ above. rw (le-leb (code "0") b (omega arith), lt-leb b (code "9") (omega arith)))
    (λ below. clash (cc (rw (lt-leb (code "A") b below) at e)))

module _ (name : List ℕ) (n : ℕ) where
  pub rule-digits : {k : ℕ} → n ≡ digits_from name k → n < k → Digits ≡ rule_at name n
  unfolding rule_at
  rule-digits {k} e h = let digit : is_digit (get_or name n 0) ≡ true = rw e (digit-following name k (rw e at h)) in rw digit

  pub rule-capital : is_capital (get_or name n 0) ≡ true → Capital ≡ rule_at name n
  unfolding rule_at
  rule-capital e = rw (capital-no-digit (get_or name n 0) e, e)

  pub rule-cut : get_or name n 0 ≡ code "_" → Underscore ≡ rule_at name n
  unfolding rule_at is_digit is_capital
  rule-cut e = rw e

  pub rule-whole : length name ≤ n → Underscore ≡ rule_at name n
  unfolding rule_at is_digit is_capital
  rule-whole h = rw (get_or-eq_default name 0 h)

-- ---- each stem is a front part of its name

abbrev pub IsFront : List ℕ → List ℕ → Type 0
IsFront name s = (n : ℕ) × (s ≡ take n name)

cuts-fronts : (name : List ℕ) (n : ℕ) → All (IsFront name) (cuts_below name n)
unfolding cuts_below
cuts-fronts name zero = All-nil (IsFront name)
cuts-fronts name (suc zero) = All-nil (IsFront name)
cuts-fronts name (suc (suc i)) =
    by_cond (All (IsFront name)) (eqb (get_or name (suc i) 0) (code "_"))
    (λ _. All-cons (IsFront name) (take (suc i) name) (cuts_below name (suc i)) (suc i, refl) (cuts-fronts name (suc i)))
    (λ _. cuts-fronts name (suc i))

capital-fronts : (name : List ℕ) (n : ℕ) → All (IsFront name) (capital_stems name n)
unfolding capital_stems
capital-fronts name zero = All-nil (IsFront name)
capital-fronts name (suc zero) = All-nil (IsFront name)
capital-fronts name (suc (suc i)) =
    by_cond (All (IsFront name)) (is_capital (get_or name (suc i) 0))
    (λ _. All-cons (IsFront name) (take (suc i) name) [] (suc i, refl) (All-nil (IsFront name)))
    (λ _. All-nil (IsFront name))

digit-fronts : (name : List ℕ) (n : ℕ) → All (IsFront name) (digit_stems name n)
unfolding digit_stems
digit-fronts name n =
    by_cond (All (IsFront name)) (ltb 0 n && ltb n (length name))
    (λ _. All-cons (IsFront name) (take n name) (capital_stems name n) (n, refl) (capital-fronts name n))
    (λ _. All-nil (IsFront name))

pub stems-fronts : (name : List ℕ) → All (IsFront name) (stems name)
unfolding stems
stems-fronts name =
    All-cons (IsFront name) name _ (length name, sym (take-length name))
    (All-append (IsFront name) (cuts_below name (length name)) (digit_stems name (digits_from name (length name))) (cuts-fronts name (length name)) (digit-fronts name (digits_from name (length name))))
