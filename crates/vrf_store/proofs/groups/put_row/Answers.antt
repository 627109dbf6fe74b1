-- `vrf_store::groups::put_row` satisfies its contract: it writes the text and the number, then the key and the link.
use Rattle.vrf_store.specs.Inner.Memory.{push_row}
use Rattle.vrf_store.proofs.groups.put_row.Goals as goal

pub returns : goal.returns
unfolding push_row
returns c = cc
