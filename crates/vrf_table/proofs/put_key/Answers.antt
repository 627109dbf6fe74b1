-- `vrf_table::put_key` satisfies its contract: it writes one word after another.
use Rattle.vrf_table.specs.Inner.Table.{set_key}
use Rattle.vrf_table.proofs.put_key.Goals as goal

pub returns : goal.returns
unfolding set_key
returns c = cc
