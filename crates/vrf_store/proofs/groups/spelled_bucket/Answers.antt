-- `vrf_store::groups::spelled_bucket` satisfies its contract: the key fits in the buffer in which it is written out.
use Rattle.std.proofs.Common.{arith}
use Rattle.vrf_table.proofs.Laws.Spelled.{key-short}
use Rattle.vrf_store.proofs.groups.spelled_bucket.Goals as goal

pub spell-n-requires : goal.spell-n-requires
spell-n-requires c = omega (arith, key-short c.args.path.now c.args.key, c.requires)
