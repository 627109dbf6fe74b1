-- The leaf, if there is one, is the rest of the path from some place on.
use Rattle.std.proofs.Common.{arith}
use Rattle.vrf_table.specs.Inner.Found.{claim_in}
use Rattle.vrf_store.proofs.Laws.Check.Steps.{path-short, leaf-short, leaf-dotless}
use Rattle.vrf_check.specs.Inner.Steps.{leaf_settled}
use Rattle.vrf_check.proofs.Laws.Steps.{leaf-there, leaf-none}
use Rattle.vrf_check.proofs.leaf_ok.Goals as goal

pub claim-requires : goal.claim-requires
claim-requires c =
    let t = c.args.index.chains.groups in
    let found = rw c.in-Some.is at c.leaf_at.ensures in
    let short = path-short t.rows.now t.texts.now c.args.g c.path-path.ensures (t.texts_in c.args.g c.requires.1) (c.requires.0 c.args.g c.requires.1) in
    (leaf-dotless _ _ found.0, leaf-short c.path-path.result.now (omega (arith, short)) _)

pub returns-in-Some : goal.returns-in-Some
unfolding leaf_settled
returns-in-Some c =
    let x = c.args in
    let found = rw c.in-Some.is at c.leaf_at.ensures in
    leaf-there (claim_in x.index) c.path-path.ensures x.g _ found.0 c.claim.ensures.1 c.is_settled.ensures

pub returns-in-None : goal.returns-in-None
unfolding leaf_settled
returns-in-None c =
    let x = c.args in
    leaf-none (claim_in x.index) c.path-path.ensures x.g (rw c.in-None.is at c.leaf_at.ensures)
