-- Laws about indexes. A correct index stays correct when one entry is added. An index in which every entry is found by its own keys is
-- correct. The proofs of `vrf_store` use these laws.
use Rattle.std.specs.Prelude.{◌≡◌, ℕ, suc, ◌<◌, ◌≤◌, Bool, true, false, cond, ◌≢◌}
use Rattle.std.proofs.Math.Path.{refl, sym, ap}
use Rattle.std.proofs.Common.{◌∙◌, arith}
use Rattle.std.proofs.Math.Option.{Option, none, some}
use Rattle.vrf_bitio.proofs.Laws.Cases.{clash}
use Rattle.vrf_model.specs.Lookup.{Claim, absent, ambiguous, claimed}
use Rattle.vrf_table.specs.Chain.{walk, last_below}
use Rattle.vrf_table.specs.Index.{claim_unless_second, claim_from, claim_walk}
use Rattle.vrf_table.specs.Inner.Index.{claim_below, FindsLast, FindsClaim}
use Rattle.vrf_table.proofs.Laws.Chain.{by_equal, walk_at, walk-miss, walk-past, walk-passes, walk_none, walk-ext, Passes, last_below-suc, last_below-ext, last_below-last, last_below-none}
use Rattle.vrf_table.proofs.Laws.Chain.{last_below-reach, last_below-passes}

pub by-true : (b : Bool) → (b ≢ true) → b ≡ false
by-true true h = absurd (h refl)
by-true false h = refl

-- ---- claims

-- equal claims: if the first was absent, nothing was found for the second
claim-none : (f g : ℕ → Option ℕ) (o q : Option ℕ) → claim_from f o ≡ claim_from g q → o ≡ none → q ≡ none
unfolding claim_from claim_unless_second
claim-none f g o none c e = refl
claim-none f g o (some i) c e = go (g i) (sym (ap (claim_from f) e) ∙ c)
  where
    go : (x : Option ℕ) → absent ≡ claim_unless_second i x → some i ≡ none
    go none k = clash cc
    go (some j) k = clash cc

-- the claim of a new entry depends only on whether an older one has the key
claim-again : (f g : ℕ → Option ℕ) (o q : Option ℕ) (n : ℕ) → claim_from f o ≡ claim_from g q → claim_unless_second n o ≡ claim_unless_second n q
unfolding claim_unless_second
claim-again f g none q n c = ap (claim_unless_second n) (sym (claim-none f g none q c refl))
claim-again f g (some i) none n c = clash (let z : some i ≡ none = claim-none g f none (some i) (sym c) refl in cc)
claim-again f g (some i) (some j) n c = refl

claim-ext : (hit : ℕ → Bool) (f g : ℕ → Option ℕ) (n : ℕ) (o : Option ℕ) → Passes hit n o → ((e : ℕ) → e < n → f e ≡ g e) → claim_from f o ≡ claim_from g o
unfolding claim_from
claim-ext hit f g n none h k = refl
claim-ext hit f g n (some e) h k = ap (claim_unless_second e) (k e h.0)

-- ---- one more entry

module _ {K : Type 0} (hit hit' : K → ℕ → Bool) (link link' : ℕ → ℕ) (start start' : K → ℕ) (n : ℕ) where
  -- how key y's chain is affected by entry n. Either n does not have the key and the chain starts where it did, or n is now at the head of
  -- y's bucket
  pub data Chained (y : K) : Type 0 where
    kept : hit' y n ≡ false → start' y ≡ start y → Chained y
    newest : start' y ≡ suc n → link' n ≡ start y → Chained y

  -- entry n is new, and the entries before it are unchanged
  pub record Grown : Type 0 where
    pub hits : (y : K) (e : ℕ) → e < n → hit y e ≡ hit' y e
    pub links : (e : ℕ) → e < n → link e ≡ link' e
    pub chains : (y : K) → Chained y

  -- the walk for y before entry n was added, and after
  abbrev was : K → Option ℕ
  was y = walk (hit y) link n (start y)

  abbrev is : K → Option ℕ
  is y = walk (hit' y) link' (suc n) (start' y)

  module _ (g : Grown) (y : K) where
    old-walk : (e p : ℕ) → e ≤ n → walk (hit y) link e p ≡ walk (hit' y) link' e p
    old-walk e p k = walk-ext (hit y) (hit' y) link link' e p (λ i j. g.hits y i (omega (arith, j))) (λ i j. g.links i (omega (arith, j)))

    old-last : (e : ℕ) → e ≤ n → last_below (hit y) e ≡ last_below (hit' y) e
    old-last e k = last_below-ext (hit y) (hit' y) e (λ i j. g.hits y i (omega (arith, j)))

    -- the walk finds the new entry, or what it found before
    grown-walk : (was y ≡ none → last_below (hit y) n ≡ none) → is y ≡ cond (hit' y n) (some n) (was y)
    grown-walk known = go (g.chains y)
      where
        go : Chained y → is y ≡ cond (hit' y n) (some n) (was y)
        go (newest s l) =
            ap (walk (hit' y) link' (suc n)) s ∙ walk_at (hit' y) link' n ∙ ap (cond (hit' y n) (some n)) (ap (walk (hit' y) link' n) l ∙ sym (old-walk n (start y) (omega arith)))
        go (kept f s) = by_equal (start y) (suc n)
            (λ q. let gone : was y ≡ none = ap (walk (hit y) link n) q ∙ walk-past (hit y) link n (suc n) (omega arith) in
            let garbage = walk_none (hit' y) link' n (link' n) (sym (old-last n (omega arith)) ∙ known gone) in
            ap (walk (hit' y) link' (suc n)) (s ∙ q) ∙ walk_at (hit' y) link' n ∙ ap (cond (hit' y n) (some n)) (garbage ∙ sym gone))
            (λ q. ap (walk (hit' y) link' (suc n)) s ∙ walk-miss (hit' y) link' n (start y) q ∙ sym (old-walk n (start y) (omega arith)) ∙ rw f refl)

    grown-last : last_below (hit' y) (suc n) ≡ cond (hit' y n) (some n) (last_below (hit y) n)
    grown-last = last_below-suc (hit' y) n ∙ ap (cond (hit' y n) (some n)) (sym (old-last n (omega arith)))

    -- after the new entry, the walk finds what it found before
    following-new : hit' y n ≡ true → walk (hit' y) link' n (link' n) ≡ was y
    following-new t = go (g.chains y)
      where
        go : Chained y → walk (hit' y) link' n (link' n) ≡ was y
        go (newest s l) = ap (walk (hit' y) link' n) l ∙ sym (old-walk n (start y) (omega arith))
        go (kept f s) = clash (let z : true ≡ false = sym t ∙ f in cc)

  pub latest-grown : Grown → FindsLast hit link start n → FindsLast hit' link' start' (suc n)
  latest-grown g h y = grown-walk g y (λ e. sym (h y) ∙ e) ∙ ap (cond (hit' y n) (some n)) (h y) ∙ sym (grown-last g y)

  pub claims-grown : Grown → FindsClaim hit link start n → FindsClaim hit' link' start' (suc n)
  unfolding claim_below claim_walk claim_from
  claims-grown g h y =
      let known = claim-none _ _ (was y) (last_below (hit y) n) (h y) in
      ap (claim_from (λ e. walk (hit' y) link' e (link' e))) (grown-walk g y known) ∙ go (hit' y n) refl ∙ sym (ap (claim_from (last_below (hit' y))) (grown-last g y))
    where
      go : (b : Bool) → hit' y n ≡ b → claim_from (λ e. walk (hit' y) link' e (link' e)) (cond b (some n) (was y)) ≡ claim_from (last_below (hit' y)) (cond b (some n) (last_below (hit y) n))
      go true q = ap (claim_unless_second n) (following-new g y q) ∙ claim-again _ _ (was y) (last_below (hit y) n) n (h y) ∙ ap (claim_unless_second n) (old-last g y n (omega arith))
      go false q =
          sym (claim-ext (hit y) (λ e. walk (hit y) link e (link e)) (λ e. walk (hit' y) link' e (link' e)) n (was y) (walk-passes (hit y) link n (start y)) (λ e k. old-walk g y e (link e) (omega (arith, k)) ∙ ap (walk (hit' y) link' e) (g.links e k)))
          ∙ h y ∙ claim-ext (hit y) (last_below (hit y)) (last_below (hit' y)) n (last_below (hit y) n) (last_below-passes (hit y) n) (λ e k. old-last g y e (omega (arith, k)))

-- ---- an index in which every entry is found

module _ {K : Type 0} (hit : K → ℕ → Bool) (link : ℕ → ℕ) (start : K → ℕ) (n : ℕ) where
  -- the walk for y finds e or a later entry
  abbrev pub Reaches : K → ℕ → Type 0
  Reaches y e = (f : ℕ) × ((walk (hit y) link n (start y) ≡ some f) × (e ≤ f))

  pub latest-reaches : FindsLast hit link start n → (y : K) (e : ℕ) → e < n → hit y e ≡ true → Reaches y e
  latest-reaches h y e k t = let r = last_below-reach (hit y) n e k t in (r.0, (h y ∙ r.1.0, r.1.1))

  pub reaches-latest : ((y : K) (e : ℕ) → e < n → hit y e ≡ true → Reaches y e) → FindsLast hit link start n
  reaches-latest h y = go (walk (hit y) link n (start y)) refl (walk-passes (hit y) link n (start y))
    where
      -- an entry that the walk does not reach does not have the key
      misses : (o : Option ℕ) → walk (hit y) link n (start y) ≡ o → (j : ℕ) → j < n → ((f : ℕ) → o ≡ some f → j ≤ f → ⊥) → hit y j ≡ false
      misses o w j k unless = by-true (hit y j) (λ t. let r = h y j k t in unless r.0 (sym w ∙ r.1.0) r.1.1)

      go : (o : Option ℕ) → walk (hit y) link n (start y) ≡ o → Passes (hit y) n o → walk (hit y) link n (start y) ≡ last_below (hit y) n
      go none w p = w ∙ sym (last_below-none (hit y) n (λ j k. misses none w j k (λ f e m. clash cc)))
      go (some e) w p = w ∙ sym (last_below-last (hit y) n e p.0 p.1 (λ j a b. misses (some e) w j b (λ f q m. let s : e ≡ f = cc in omega (arith, a, m, s))))

  -- the claim of y is e, or ambiguous
  pub data Settled (y : K) (e : ℕ) : Type 0 where
    several : claim_walk (hit y) link n (start y) ≡ ambiguous → Settled y e
    alone : claim_walk (hit y) link n (start y) ≡ claimed e → Settled y e

  pub claims-settled : FindsClaim hit link start n → (y : K) (e : ℕ) → e < n → hit y e ≡ true → Settled y e
  unfolding claim_below claim_from claim_unless_second
  claims-settled h y e k t =
      let r = last_below-reach (hit y) n e k t in
      go r.0 r.1.1 (h y ∙ ap (claim_from (last_below (hit y))) r.1.0) (last_below (hit y) r.0) refl
    where
      go : (f : ℕ) → e ≤ f → claim_walk (hit y) link n (start y) ≡ claim_unless_second f (last_below (hit y) f) → (o : Option ℕ) → last_below (hit y) f ≡ o → Settled y e
      go f m c (some i) q = several (c ∙ ap (claim_unless_second f) q)
      go f m c none q = by_equal e f
          (λ s. alone (c ∙ ap (claim_unless_second f) q ∙ ap claimed (sym s)))
          (λ s. let r = last_below-reach (hit y) f e (omega (arith, s)) t in clash (let z : none ≡ some r.0 = sym q ∙ r.1.0 in cc))

  pub settled-claims : ((y : K) (e : ℕ) → e < n → hit y e ≡ true → Settled y e) → FindsClaim hit link start n
  unfolding claim_below claim_walk claim_from claim_unless_second
  settled-claims h y = go (walk (hit y) link n (start y)) refl (walk-passes (hit y) link n (start y))
    where
      settled : (c : Claim) → claim_walk (hit y) link n (start y) ≡ c → (j : ℕ) → (c ≢ ambiguous) → (c ≢ claimed j) → Settled y j → ⊥
      settled c w j no-s no-a (several s) = no-s (sym w ∙ s)
      settled c w j no-s no-a (alone s) = no-a (sym w ∙ s)

      -- if the claim of y is neither j nor ambiguous, entry j does not have the key
      misses : (c : Claim) → claim_walk (hit y) link n (start y) ≡ c → (j : ℕ) → j < n → (c ≢ ambiguous) → (c ≢ claimed j) → hit y j ≡ false
      misses c w j k no-s no-a = by-true (hit y j) (λ t. settled c w j no-s no-a (h y j k t))

      one : (e : ℕ) → walk (hit y) link n (start y) ≡ some e → Passes (hit y) n (some e) → (o : Option ℕ) → walk (hit y) link e (link e) ≡ o → Passes (hit y) e o → claim_walk (hit y) link n (start y) ≡ claim_below (hit y) n
      one e w p none q k =
          let c : claim_walk (hit y) link n (start y) ≡ claimed e = ap (claim_from (λ i. walk (hit y) link i (link i))) w ∙ ap (claim_unless_second e) q in
          let others : (j : ℕ) → j < n → (e ≢ j) → hit y j ≡ false = λ j m ne. misses (claimed e) c j m (λ z. clash cc) (λ z. ne cc) in
          let last = last_below-last (hit y) n e p.0 p.1 (λ j a b. others j b (λ z. omega (arith, a, z))) in
          let first = last_below-none (hit y) e (λ j a. others j (omega (arith, a, p.0)) (λ z. omega (arith, a, z))) in
          c ∙ sym (ap (claim_from (last_below (hit y))) last ∙ ap (claim_unless_second e) first)
      one e w p (some j) q k =
          let c : claim_walk (hit y) link n (start y) ≡ ambiguous = ap (claim_from (λ i. walk (hit y) link i (link i))) w ∙ ap (claim_unless_second e) q in
          let r = last_below-reach (hit y) n e p.0 p.1 in
          let s = last_below-reach (hit y) r.0 j (omega (arith, k.0, r.1.1)) k.1 in
          c ∙ sym (ap (claim_from (last_below (hit y))) r.1.0 ∙ ap (claim_unless_second r.0) s.1.0)

      go : (o : Option ℕ) → walk (hit y) link n (start y) ≡ o → Passes (hit y) n o → claim_walk (hit y) link n (start y) ≡ claim_below (hit y) n
      go none w p =
          let c : claim_walk (hit y) link n (start y) ≡ absent = ap (claim_from (λ i. walk (hit y) link i (link i))) w in
          c ∙ sym (ap (claim_from (last_below (hit y))) (last_below-none (hit y) n (λ j k. misses absent c j k (λ z. clash cc) (λ z. clash cc))))
      go (some e) w p = one e w p (walk (hit y) link e (link e)) refl (walk-passes (hit y) link e (link e))

-- ---- two indexes with the same entries

module _ {K : Type 0} (hit hit' : K → ℕ → Bool) (link link' : ℕ → ℕ) (start start' : K → ℕ) (n : ℕ) where
  -- their tests, links and heads agree
  pub record Alike : Type 0 where
    pub hits : (y : K) (e : ℕ) → e < n → hit y e ≡ hit' y e
    pub links : (e : ℕ) → e < n → link e ≡ link' e
    pub starts : (y : K) → start y ≡ start' y

  module _ (a : Alike) (y : K) where
    walk-alike : walk (hit y) link n (start y) ≡ walk (hit' y) link' n (start' y)
    walk-alike = walk-ext (hit y) (hit' y) link link' n (start y) (a.hits y) a.links ∙ ap (walk (hit' y) link' n) (a.starts y)

    last-alike : last_below (hit y) n ≡ last_below (hit' y) n
    last-alike = last_below-ext (hit y) (hit' y) n (a.hits y)

  pub latest-alike : Alike → FindsLast hit link start n → FindsLast hit' link' start' n
  latest-alike a h y = sym (walk-alike a y) ∙ h y ∙ last-alike a y

  pub claims-alike : Alike → FindsClaim hit link start n → FindsClaim hit' link' start' n
  unfolding claim_below claim_walk
  claims-alike a h y = sym current ∙ h y ∙ then
    where
      following : (e : ℕ) → e < n → walk (hit y) link e (link e) ≡ walk (hit' y) link' e (link' e)
      following e k = walk-ext (hit y) (hit' y) link link' e (link e) (λ i j. a.hits y i (omega (arith, j, k))) (λ i j. a.links i (omega (arith, j, k))) ∙ ap (walk (hit' y) link' e) (a.links e k)

      current : claim_from (λ e. walk (hit y) link e (link e)) (walk (hit y) link n (start y)) ≡ claim_from (λ e. walk (hit' y) link' e (link' e)) (walk (hit' y) link' n (start' y))
      current = claim-ext (hit y) (λ e. walk (hit y) link e (link e)) (λ e. walk (hit' y) link' e (link' e)) n (walk (hit y) link n (start y)) (walk-passes (hit y) link n (start y)) following ∙ ap (claim_from (λ e. walk (hit' y) link' e (link' e))) (walk-alike a y)

      then : claim_from (last_below (hit y)) (last_below (hit y) n) ≡ claim_from (last_below (hit' y)) (last_below (hit' y) n)
      then = claim-ext (hit y) (last_below (hit y)) (last_below (hit' y)) n (last_below (hit y) n) (last_below-passes (hit y) n) (λ e k. last_below-ext (hit y) (hit' y) e (λ i j. a.hits y i (omega (arith, j, k)))) ∙ ap (claim_from (last_below (hit' y))) (last-alike a y)
