-- `vrf_table::leaf_bucket` satisfies its contract.
use Rattle.std.proofs.Common.{ap, ◌∙◌}
use Rattle.vrf_table.specs.TextIndex.{text_bucket}
use Rattle.vrf_table.specs.Inner.TextIndex.{leaf_bucket}
use Rattle.vrf_table.proofs.leaf_bucket.Goals as goal

pub returns : goal.returns
unfolding leaf_bucket
returns c =
    c.text_bucket.ensures ∙ ap (text_bucket c.args.b) c.leaf_base-n.ensures.0
