-- `vrf_store::texts::move_text` satisfies its contract: it copies to a place that does not overlap the text, and writes one word of the
-- row.
use Rattle.vrf_store.specs.Inner.Texts.{move_text}
use Rattle.vrf_store.proofs.texts.move_text.Goals as goal

pub returns : goal.returns
unfolding move_text
returns c = (cc, cc)
