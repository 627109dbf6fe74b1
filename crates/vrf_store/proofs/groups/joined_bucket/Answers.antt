-- `vrf_store::groups::joined_bucket` satisfies its contract.
use mathlib.Core.Option.{some}
use Rattle.std.proofs.Common.{ap, ◌∙◌}
use Rattle.vrf_model.specs.Lookup.{Claim}
use Rattle.vrf_table.specs.Inner.TextIndex.{leaf_bucket}
use Rattle.vrf_store.specs.Inner.Groups.{unless_shared}
use Rattle.vrf_store.proofs.Laws.Groups.Buckets.{not-shared}
use Rattle.vrf_store.proofs.groups.joined_bucket.Goals as goal

pub returns-in-Ambiguous : goal.returns-in-Ambiguous
unfolding unless_shared
returns-in-Ambiguous c = rw (← c.claim-found.ensures.1, c.in-Ambiguous.is)

pub returns-in_default : goal.returns-in_default
returns-in_default c =
    let x = c.args in
    let r = c.claim-found in
    ap some r.ensures.0 ∙ not-shared r.result.claim (leaf_bucket x.index.buckets x.l.now) c.in_default.not-Ambiguous ∙ ap (λ (v : Claim). unless_shared v (leaf_bucket x.index.buckets x.l.now)) r.ensures.1
