-- `vrf_store::look::row_info` satisfies its contract.
use Rattle.vrf_table.specs.Table.{info}
use Rattle.vrf_store.proofs.look.row_info.Goals as goal

pub returns : goal.returns
unfolding info
returns c = c.get32.ensures
