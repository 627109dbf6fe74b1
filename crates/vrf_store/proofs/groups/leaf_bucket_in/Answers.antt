-- `vrf_store::groups::leaf_bucket_in` satisfies its contract.
use Rattle.std.proofs.Common.{arith}
use Rattle.vrf_store.proofs.Laws.Groups.Memory.{row_inside, path_inside, path-short, readable-before}
use Rattle.vrf_store.proofs.groups.leaf_bucket_in.Goals as goal

pub row_text-path-requires : goal.row_text-path-requires
row_text-path-requires c = rw (c.group_rows.ensures, c.texts.ensures) (row_inside c.requires, path_inside c.requires)

pub groups_by_leaf-requires : goal.groups_by_leaf-requires
groups_by_leaf-requires c = readable-before c.requires

pub leaf_bucket_of-requires : goal.leaf_bucket_of-requires
leaf_bucket_of-requires c = rw (c.row_text-path.ensures, c.group_rows.ensures, c.texts.ensures) (omega (arith, path-short c.requires))

pub returns : goal.returns
returns c = cc
