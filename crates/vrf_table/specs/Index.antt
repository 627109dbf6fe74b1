-- How a chain answers a claim (document 01, The book): walk once for the first entry that passes the test, and again for an older one.
use Rattle.std.specs.Prelude.{ℕ, Bool}
use Rattle.std.proofs.Math.Option.{Option, none, some}
use Rattle.vrf_model.specs.Lookup.{Claim, absent, ambiguous, claimed}
use Rattle.vrf_table.specs.Chain.{walk}

-- the claim of an entry that was found, given what the walk after it finds
unfoldable pub claim_unless_second : ℕ → Option ℕ → Claim
claim_unless_second e none = claimed e
claim_unless_second e (some i) = ambiguous

unfoldable pub claim_from : (ℕ → Option ℕ) → Option ℕ → Claim
claim_from following none = absent
claim_from following (some e) = claim_unless_second e (following e)

unfoldable pub claim_walk : (ℕ → Bool) → (ℕ → ℕ) → ℕ → ℕ → Claim
claim_walk hit link n p = claim_from (λ e. walk hit link e (link e)) (walk hit link n p)
