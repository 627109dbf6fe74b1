-- `vrf_store::groups::leaf_bucket_of` satisfies its contract.
use Rattle.std.specs.Prelude.{None, Some}
use Rattle.std.proofs.Common.{◌≡◌, arith}
use Rattle.vrf_path.specs.Answers.{LeafAnswer}
use Rattle.vrf_table.specs.Inner.TextIndex.{leaf_bucket}
use Rattle.vrf_table.specs.Inner.Found.{claim_in}
use Rattle.vrf_store.proofs.Laws.Check.Steps.{leaf-short, leaf-dotless}
use Rattle.vrf_store.proofs.Laws.Groups.Buckets.{leaf-joins, no-leaf-joins}
use Rattle.vrf_store.proofs.groups.leaf_bucket_of.Goals as goal

pub joined_bucket-requires : goal.joined_bucket-requires
joined_bucket-requires c =
    let found : LeafAnswer c.args.path.now (Some c.in_ok-i.i) = rw c.in_ok-i.was at c.leaf_at.ensures in
    (leaf-dotless _ _ found.0, leaf-short _ c.requires _)

pub returns : goal.returns
returns c =
    let t = c.args.index in
    let found : LeafAnswer c.args.path.now (Some c.in_ok-i.i) = rw c.in_ok-i.was at c.leaf_at.ensures in
    leaf-joins (claim_in t) (leaf_bucket t.buckets) c.args.path.now _ found.0 c.joined_bucket.ensures

pub returns-in_err-i : goal.returns-in_err-i
returns-in_err-i c =
    let t = c.args.index in
    let gone : c.from_residual.result ≡ None = grind arith in
    rw gone (no-leaf-joins (claim_in t) (leaf_bucket t.buckets) c.args.path.now (rw c.in_err-i.was at c.leaf_at.ensures))
