-- `vrf_store::rows::text_span` satisfies its contract: it reads two words of the row.
use Rattle.vrf_table.specs.Table.{at, len}
use Rattle.vrf_store.proofs.rows.text_span.Goals as goal

pub returns : goal.returns
unfolding at len
returns c = (c.get32.ensures, c.get32-2.ensures)
