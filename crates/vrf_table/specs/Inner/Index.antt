-- When an index is correct. `hit y e` is whether entry e has the key y. `start y` is the head of y's bucket, where y's chain starts.
-- The contracts of `vrf_store` keep its indexes correct in this sense.
use Rattle.std.specs.Prelude.{◌≡◌, ℕ, Bool}
use Rattle.vrf_model.specs.Lookup.{Claim, absent, ambiguous, claimed}
use Rattle.vrf_table.specs.Chain.{walk, last_below}
use Rattle.vrf_table.specs.Index.{claim_from, claim_walk}

-- the first claim, or the next one if the first is absent
unfoldable pub claim_or_later : Claim → Claim → Claim
claim_or_later absent next = next
claim_or_later ambiguous next = ambiguous
claim_or_later (claimed i) next = claimed i

unfoldable pub claim_below : (ℕ → Bool) → ℕ → Claim
claim_below hit n = claim_from (last_below hit) (last_below hit n)

module _ {K : Type 0} (hit : K → ℕ → Bool) (link : ℕ → ℕ) (start : K → ℕ) where
  -- the walk for each key finds the last entry with that key
  abbrev pub FindsLast : ℕ → Type 0
  FindsLast n = (y : K) → walk (hit y) link n (start y) ≡ last_below (hit y) n

  -- the walk for each key answers whether no entry, one or several have it
  abbrev pub FindsClaim : ℕ → Type 0
  FindsClaim n = (y : K) → claim_walk (hit y) link n (start y) ≡ claim_below (hit y) n
