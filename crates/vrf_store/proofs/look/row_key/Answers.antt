-- `vrf_store::look::row_key` satisfies its contract.
use Rattle.vrf_table.specs.Table.{key}
use Rattle.vrf_store.proofs.look.row_key.Goals as goal

pub returns : goal.returns
unfolding key
returns c = c.get64.ensures
