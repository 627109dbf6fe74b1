-- `vrf_store::rows::text_len` satisfies its contract: it reads one word of the row.
use Rattle.vrf_table.specs.Table.{len}
use Rattle.vrf_store.proofs.rows.text_len.Goals as goal

pub returns : goal.returns
unfolding len
returns c = c.get32.ensures
