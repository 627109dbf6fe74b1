-- Laws about single tests of the check: a test of the header, of a row, of a key or of a leaf passes exactly if the fact holds.
use Rattle.std.specs.Prelude.{◌≡◌, ℕ, ◌+◌, ◌<◌, ◌≤◌, Bool, true, ◌&&◌, ◌↔◌, List, length, ◌==◌, nat_le, nat_lt}
use Rattle.std.proofs.Math.Path.{refl, ap}
use Rattle.std.proofs.Common.{sym, ◌∙◌, leb-true, le-leb, ltb-true, lt-ltb, eqb-true, eq-eqb}
use Rattle.std.proofs.Math.Option.{Option, none, some}
use native.Mathlib.Omega.{arith}
use Rattle.vrf_bitio.proofs.Laws.Cases.{clash}
use Rattle.vrf_path.specs.Keys.{key_is}
use Rattle.vrf_path.proofs.Laws.Text.{same_refl}
use Rattle.vrf_path.proofs.Laws.Keys.{the-true}
use Rattle.vrf_words.proofs.Laws.Words.{length_part}
use Rattle.vrf_model.specs.Book.{Allowances}
use Rattle.vrf_model.specs.Lookup.{Claim, absent, ambiguous, claimed}
use Rattle.vrf_model.specs.Lawful.{Allowed}
use Rattle.vrf_table.specs.Chain.{walk}
use Rattle.vrf_table.specs.Index.{claim_walk}
use Rattle.vrf_table.specs.Table.{key, link, at, len, text, key_hit, key_start, find_key}
use Rattle.vrf_table.specs.Inner.Index.{FindsLast, FindsClaim}
use Rattle.vrf_table.proofs.Laws.Chain.{walk-passes, Passes}
use Rattle.vrf_table.proofs.Laws.Index.{latest-reaches, reaches-latest, Settled, claims-settled, settled-claims, several, alone}
use Rattle.vrf_store.specs.UpTo.{all_below}
use Rattle.vrf_store.specs.Store.{Header}
use Rattle.vrf_store.specs.Check.{tops_ok, header_ok, text_ok, is_place, found_ok, not_before, reach_ok, is_settled, settled_ok}
use Rattle.vrf_store.specs.Inner.Valid.{ValidHeader, ValidText, ValidTable}
use Rattle.vrf_store.proofs.Laws.Memory.UpTo.{and-true, all_below-each, each-all_below}

-- ---- from tests to facts: `simp test-facts` turns a test that passes into its fact

pub and-iff : (a b : Bool) → ((a && b) ≡ true) ↔ ((a ≡ true) × (b ≡ true))
and-iff a b = (and-true a b, λ h. rw (h.0, h.1))

pub le_iff : (a b : ℕ) → (nat_le a b ≡ true) ↔ (a ≤ b)
le_iff a b = (leb-true a b, le-leb a b)

pub lt_iff : (a b : ℕ) → (nat_lt a b ≡ true) ↔ (a < b)
lt_iff a b = (ltb-true a b, lt-ltb a b)

pub eq_iff : (a b : ℕ) → ((a == b) ≡ true) ↔ (a ≡ b)
eq_iff a b = (eqb-true a b, eq-eqb a b)

pub each-iff : (ok : ℕ → Bool) (n : ℕ) → (all_below ok n ≡ true) ↔ ((e : ℕ) → e < n → ok e ≡ true)
each-iff ok n = (all_below-each ok n, each-all_below ok n)

pub ruleset test-facts = (and-iff, le_iff, lt_iff, eq_iff, each-iff)

-- ---- the header

module _ (a : Allowances) where
  pub tops-allowed : tops_ok a ≡ true → Allowed a
  unfolding tops_ok
  tops-allowed h = let facts = simp test-facts at h in omega arith

  pub allowed-tops : Allowed a → tops_ok a ≡ true
  unfolding tops_ok
  allowed-tops h = simp test-facts (omega arith)

module _ (h : Header) where
  pub header-good : tops_ok h.allowed ≡ true → header_ok h ≡ true → ValidHeader h
  unfolding header_ok
  header-good t k = let tops = tops-allowed h.allowed t in let facts = simp test-facts at k in omega arith

  pub good-header : ValidHeader h → (tops_ok h.allowed ≡ true) × (header_ok h ≡ true)
  unfolding header_ok
  good-header g = (allowed-tops h.allowed g.tops, simp test-facts (omega arith))

-- ---- a table

-- the entry found is e
place-true : (e : ℕ) (o : Option ℕ) → is_place e o ≡ true → o ≡ some e
unfolding is_place
place-true e none h = clash cc
place-true e (some i) h = ap some (eqb-true i e h)

-- each row is found by its key
module _ (r heads : List ℕ) (b n : ℕ) (h : (e : ℕ) → e < n → found_ok r heads b n e ≡ true) where
  found_at : (e : ℕ) → e < n → find_key r heads b n (key r e) ≡ some e
  unfolding found_ok
  found_at e k = place-true e (find_key r heads b n (key r e)) (h e k)

  found-distinct : (i j : ℕ) → i < n → j < n → key r i ≡ key r j → i ≡ j
  found-distinct i j ki kj q =
      let z : some i ≡ some j = sym (found_at i ki) ∙ ap (find_key r heads b n) q ∙ found_at j kj in
      cc

  found-latest : FindsLast (key_hit r) (link r) (key_start heads b) n
  unfolding find_key key_hit
  found-latest = reaches-latest (key_hit r) (link r) (key_start heads b) n (λ y e k t.
      (e, (sym (ap (find_key r heads b n) (eqb-true (key r e) y t)) ∙ found_at e k, omega arith)))

-- the bytes used are inside the texts
module _ (used : ℕ) (x r : List ℕ) (fits : used ≤ length x) (e : ℕ) where
  -- a text inside the bytes used has the length that its row gives
  pub row-length : at r e + len r e ≤ used → length (text r x e) ≡ len r e
  unfolding text
  row-length h = length_part x (at r e) (len r e) (omega arith)

  text-good : text_ok used x r e ≡ true → ValidText used x r e
  unfolding text_ok
  text-good h =
      let facts = simp test-facts at h in
      record { within = facts.0; is_text = record { valid = facts.1.1; short = omega (arith, row-length facts.0) } }

  good-text : ValidText used x r e → text_ok used x r e ≡ true
  unfolding text_ok
  good-text g = simp test-facts (g.within, (omega (arith, row-length g.within), g.is_text.valid))

module _ {used : ℕ} {x r heads : List ℕ} {b n : ℕ} where
  pub found-table : used ≤ length x → ((e : ℕ) → e < n → text_ok used x r e ≡ true) → ((e : ℕ) → e < n → found_ok r heads b n e ≡ true) → ValidTable used x r heads b n
  found-table fits t f = record {
    texts = λ e k. text-good used x r fits e (t e k);
    distinct = found-distinct r heads b n f;
    latest = found-latest r heads b n f;
  }

  pub table-text : used ≤ length x → ValidTable used x r heads b n → (e : ℕ) → e < n → text_ok used x r e ≡ true
  table-text fits g e k = good-text used x r fits e (g.texts e k)

  -- the last row with a key is the only one
  pub row-found : ValidTable used x r heads b n → (e : ℕ) → e < n → find_key r heads b n (key r e) ≡ some e
  unfolding find_key key_hit
  row-found g e k =
      let found = latest-reaches (key_hit r) (link r) (key_start heads b) n g.latest (key r e) e k (eq-eqb (key r e) (key r e) refl) in
      let passes : Passes (key_hit r (key r e)) n (some found.0) = rw found.1.0 at (walk-passes (key_hit r (key r e)) (link r) n (key_start heads b (key r e))) in
      found.1.0 ∙ ap some (g.distinct found.0 e passes.0 k (eqb-true (key r found.0) (key r e) passes.1))

  pub table-found : ValidTable used x r heads b n → (e : ℕ) → e < n → found_ok r heads b n e ≡ true
  unfolding found_ok is_place
  table-found g e k = rw (row-found g e k) (eq-eqb e e refl)

-- ---- keys of entries, where some entries have no key

-- the entry found is e or a later one
not-before : (e : ℕ) (o : Option ℕ) → not_before e o ≡ true → (f : ℕ) × ((o ≡ some f) × (e ≤ f))
unfolding not_before
not-before e none h = clash cc
not-before e (some f) h = (f, (refl, leb-true e f h))

module _ (key_of : ℕ → Option (List ℕ)) (link : ℕ → ℕ) (start : List ℕ → ℕ) (n : ℕ) where
  -- entry e has the key y
  abbrev has : List ℕ → ℕ → Bool
  has y e = key_is (key_of e) y

  has-own : (e : ℕ) (y : List ℕ) → key_of e ≡ some y → has y e ≡ true
  unfolding key_is
  has-own e y q = rw q (same_refl y)

  -- the entry that the walk for a key finds
  abbrev find : List ℕ → Option ℕ
  find y = walk (has y) link n (start y)

  -- if each entry's key finds that entry or a later one, each key finds its last entry; and conversely
  pub reach-iff : ((e : ℕ) → e < n → reach_ok find e (key_of e) ≡ true) ↔ FindsLast has link start n
  unfolding reach_ok not_before
  reach-iff = (
    λ h. reaches-latest has link start n (λ y e k t. not-before e (find y) (rw (the-true (key_of e) y t) at (h e k))),
    λ h e k. go h e k (key_of e) refl,
  )
    where
      go : FindsLast has link start n → (e : ℕ) → e < n → (o : Option (List ℕ)) → key_of e ≡ o → reach_ok find e o ≡ true
      go h e k none q = refl
      go h e k (some y) q =
          let r = latest-reaches has link start n h y e k (has-own e y q) in
          rw r.1.0 (le-leb e r.0 r.1.1)

  abbrev claim : List ℕ → Claim
  claim y = claim_walk (has y) link n (start y)

  is-settled : (y : List ℕ) (e : ℕ) (c : Claim) → claim y ≡ c → is_settled e c ≡ true → Settled has link start n y e
  unfolding is_settled
  is-settled y e absent q h = clash cc
  is-settled y e ambiguous q h = several q
  is-settled y e (claimed i) q h = alone (q ∙ ap claimed (eqb-true i e h))

  settled_is : (y : List ℕ) (e : ℕ) → Settled has link start n y e → is_settled e (claim y) ≡ true
  unfolding is_settled
  settled_is y e (several q) = rw q
  settled_is y e (alone q) = rw q (eq-eqb e e refl)

  -- if each entry's key has the claim of that entry or is ambiguous, each key has the correct claim; and conversely
  pub settle-iff : ((e : ℕ) → e < n → settled_ok claim e (key_of e) ≡ true) ↔ FindsClaim has link start n
  unfolding settled_ok
  settle-iff = (
    λ h. settled-claims has link start n (λ y e k t. is-settled y e (claim y) refl (rw (the-true (key_of e) y t) at (h e k))),
    λ h e k. go h e k (key_of e) refl,
  )
    where
      go : FindsClaim has link start n → (e : ℕ) → e < n → (o : Option (List ℕ)) → key_of e ≡ o → settled_ok claim e o ≡ true
      go h e k none q = refl
      go h e k (some y) q = settled_is y e (claims-settled has link start n h y e k (has-own e y q))
