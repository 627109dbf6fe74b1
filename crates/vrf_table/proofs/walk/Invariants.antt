-- The rest of the chain gives the same entry as the whole chain.
use Rattle.std.proofs.Common.{◌≡◌, ℕ, ◌≤◌, Bool}
use Rattle.vrf_table.specs.Chain.{walk}
use Rattle.vrf_table.specs.Inner.Answers.{Gives}
use Rattle.vrf_table.proofs.walk.Given as goal

abbrev pub invariant-loop-p : goal.invariant-loop-p
invariant-loop-p g l =
    (l.limit ≤ l.n)
    × ((test : ℕ → Bool) (next : ℕ → ℕ) → Gives (goal.Hit-post g l.hit) test l.n → Gives (goal.Link-post g l.link) next l.n → walk test next l.n l.fn.p ≡ walk test next l.limit l.p)

abbrev pub decreases-loop-p : goal.decreases-loop-p
decreases-loop-p g l = l.limit
