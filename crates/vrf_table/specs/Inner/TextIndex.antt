-- Names used in the contracts of `leaf_bucket`, `LeafIndex::claim` and `LeafChains::first_claim`.
use Rattle.std.specs.Prelude.{ℕ, List}
use Rattle.vrf_path.specs.Base.{leaf_base}
use Rattle.vrf_model.specs.Lookup.{Claim}
use Rattle.vrf_table.specs.TextIndex.{text_bucket, claim_at}
use Rattle.vrf_table.specs.Inner.Index.{claim_or_later}

-- the bucket of a leaf is the bucket of its base
unfoldable pub leaf_bucket : ℕ → List ℕ → ℕ
leaf_bucket b l = text_bucket b (leaf_base l)

-- the first claim that is not absent: leaf s in the chain that starts at p, then the leaves t and u in the chain that starts at q
unfoldable pub first_at : List ℕ → List ℕ → List ℕ → ℕ → (p q : ℕ) → (s t u : List ℕ) → Claim
first_at r x links n p q s t u = claim_or_later (claim_at r x links n p s) (claim_or_later (claim_at r x links n q t) (claim_at r x links n q u))
