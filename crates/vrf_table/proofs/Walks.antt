-- Laws for the search loops: one turn at the entry that pointer p points to, and claims as two walks.
use Rattle.std.proofs.Common.{◌≡◌, ℕ, suc, ◌-◌, ◌<◌, ◌≤◌, Bool, true, false, cond, sym, ap, ◌∙◌, arith}
use Rattle.std.specs.Prelude.{Option as Answer, Some, None}
use mathlib.Core.Option.{none, some}
use Rattle.vrf_model.specs.Lookup.{absent, ambiguous, claimed}
use Rattle.vrf_table.specs.Chain.{walk}
use Rattle.vrf_table.specs.Index.{claim_unless_second, claim_from, claim_walk}
use Rattle.vrf_table.specs.Inner.Answers.{entry}
use Rattle.vrf_table.proofs.Laws.Chain.{walk_at, walk-past, walk-skip, walk-nil, walk-passes}

-- one turn at the pointer p, where `below` entries are left
module _ (hit : ℕ → Bool) (link : ℕ → ℕ) (below p : ℕ) where
  pub walk-ended : p ≤ 0 → none ≡ walk hit link below p
  walk-ended h = let z : p ≡ 0 = omega arith in sym (rw z (walk-nil hit link below))

  pub walk-beyond : below < p → none ≡ walk hit link below p
  walk-beyond k = sym (walk-past hit link below p (omega arith))

  module _ (h : 0 < p) (k : p ≤ below) where
    meets : walk hit link below p ≡ cond (hit (p - 1)) (some (p - 1)) (walk hit link (p - 1) (link (p - 1)))
    meets = let z : p ≡ suc (p - 1) = omega arith in walk-skip hit link below p (omega arith) ∙ ap (λ (i : ℕ). walk hit link i i) z ∙ walk_at hit link (p - 1)

    pub walk-found : {b : Bool} → b ≡ hit (p - 1) → b ≡ true → some (p - 1) ≡ walk hit link below p
    walk-found e t = sym (meets ∙ rw (sym e ∙ t))

    pub walk-on : {b : Bool} → b ≡ hit (p - 1) → b ≡ false → {q : ℕ} → q ≡ link (p - 1) → walk hit link below p ≡ walk hit link (p - 1) q
    walk-on e t eq = meets ∙ rw (sym e ∙ t, eq)

-- r is what the walk found from pointer p on, where the chain starts
module _ (hit : ℕ → Bool) (link : ℕ → ℕ) (n : ℕ) {p s : ℕ} (ep : p ≡ s) {r : Answer ℕ} (er : entry r ≡ walk hit link n p) where
  pub found_below : {e : ℕ} → r ≡ Some e → e < n
  found_below e = (rw (sym er ∙ ap entry e) at (walk-passes hit link n p)).0

  pub claim-absent : r ≡ None → absent ≡ claim_walk hit link n s
  unfolding claim_walk claim_from
  claim-absent e = rw (← ep, sym er ∙ ap entry e)

  -- r' is what the walk found after it
  module _ {e : ℕ} (ee : r ≡ Some e) {p' : ℕ} (ep' : p' ≡ link e) {r' : Answer ℕ} (er' : entry r' ≡ walk hit link e p') where
    pub claim-one : r' ≡ None → claimed e ≡ claim_walk hit link n s
    unfolding claim_walk claim_from claim_unless_second
    claim-one e' = rw (← ep, sym er ∙ ap entry ee, ← ep', sym er' ∙ ap entry e')

    pub claim-several : {i : ℕ} → r' ≡ Some i → ambiguous ≡ claim_walk hit link n s
    unfolding claim_walk claim_from claim_unless_second
    claim-several e' = rw (← ep, sym er ∙ ap entry ee, ← ep', sym er' ∙ ap entry e')
