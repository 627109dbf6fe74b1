-- `vrf_table::put_text` satisfies its contract: it writes one word after another.
use Rattle.vrf_table.specs.Inner.Table.{set_text}
use Rattle.vrf_table.proofs.put_text.Goals as goal

pub returns : goal.returns
unfolding set_text
returns c = cc
