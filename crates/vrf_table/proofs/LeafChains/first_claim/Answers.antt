-- `vrf_table::LeafChains::first_claim` satisfies its contract.
use Rattle.std.proofs.Common.{sym, ◌∙◌}
use Rattle.vrf_table.specs.Inner.TextIndex.{first_at}
use Rattle.vrf_table.proofs.Laws.Answers.{later_first, later-next}
use Rattle.vrf_table.proofs.LeafChains.first_claim.Goals as goal

pub returns-in_default : goal.returns-in_default
unfolding first_at
returns-in_default c = later_first c.claim.result _ c.claim.ensures c.in_default.not-Absent

pub returns-in_default-claim : goal.returns-in_default-claim
unfolding first_at
returns-in_default-claim c =
    let second = c.claim-in-Absent in
    later_first second.result _ second.ensures c.in_default-claim.not-Absent ∙ sym (later-next c.claim.result _ c.claim.ensures c.in-Absent.is)

pub returns-in-Absent-claim : goal.returns-in-Absent-claim
unfolding first_at
returns-in-Absent-claim c =
    let second = c.claim-in-Absent in
    c.claim-in-Absent-claim.ensures ∙ sym (later-next second.result _ second.ensures c.in-Absent-claim.is) ∙ sym (later-next c.claim.result _ c.claim.ensures c.in-Absent.is)
