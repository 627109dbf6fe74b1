-- `vrf_table::bucket_of` satisfies its contract.
use Rattle.std.proofs.Common.{refl}
use Rattle.vrf_table.specs.Table.{bucket}
use Rattle.vrf_table.proofs.bucket_of.Goals as goal

pub returns : goal.returns
unfolding bucket
returns c = refl
