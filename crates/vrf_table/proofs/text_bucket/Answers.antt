-- `vrf_table::text_bucket` satisfies its contract.
use Rattle.vrf_table.specs.TextIndex.{text_bucket}
use Rattle.vrf_table.proofs.text_bucket.Goals as goal

pub returns : goal.returns
unfolding text_bucket
returns c = cc
