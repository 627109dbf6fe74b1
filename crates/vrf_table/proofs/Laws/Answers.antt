-- Laws about what a claim of the code means, and about the first of two claims: the first one, unless it is absent. `first_claim` uses them.
use Rattle.std.specs.Prelude.{◌≡◌, ◌≢◌, refl, ℕ}
use Rattle.vrf_model.specs.Lookup.{claimed, Claim as Claims}
use Rattle.vrf_table.specs.Inner.Index.{claim_or_later}
use Rattle.vrf_table.specs.Inner.Answers.{claim}
use Rattle.vrf_table.specs.declared.Claim.{Claim}
use Rattle.vrf_table.specs.declared.Claim.TheVariants.{Absent, Ambiguous, Only}

-- what a claim with an entry means
pub claim-entry : (e : ℕ) → claim (Only e) ≡ claimed e
claim-entry e = refl

-- a claim that is neither absent nor ambiguous has an entry
pub claim-one : (r : Claim) → (r ≢ Absent) → (r ≢ Ambiguous) → (e : ℕ) × ((r ≡ Only e) × (claim r ≡ claimed e))
claim-one Absent a b = absurd (a refl)
claim-one Ambiguous a b = absurd (b refl)
claim-one (Only e) a b = (e, (refl, claim-entry e))

pub later_first : (r : Claim) {a : Claims} (b : Claims) → claim r ≡ a → (r ≢ Absent) → claim r ≡ claim_or_later a b
unfolding claim_or_later
later_first Absent b e h = absurd (h refl)
later_first Ambiguous b e h = rw (← e)
later_first (Only i) b e h = rw (← e)

pub later-next : (r : Claim) {a : Claims} (b : Claims) → claim r ≡ a → r ≡ Absent → claim_or_later a b ≡ b
unfolding claim_or_later
later-next r b e h = rw (← e, h)
