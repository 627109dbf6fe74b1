-- `vrf_store::open::memory_needed` satisfies its contract: one case for each outcome of `above_top`.
use Rattle.std.proofs.Common.{sym, ◌∙◌}
use Rattle.vrf_store.proofs.Laws.Opening.Opening.{within-tops, needed-above, needed-within}
use Rattle.vrf_store.proofs.open.memory_needed.Goals as goal

pub returns-in-Some : goal.returns-in-Some
returns-in-Some c = sym (needed-above _ c.above_top.ensures c.in-Some.is)

pub needed-requires : goal.needed-requires
needed-requires c = within-tops _ c.above_top.ensures c.in-None.is

pub returns-in-None : goal.returns-in-None
returns-in-None c = c.needed.ensures ∙ sym (needed-within _ c.above_top.ensures c.in-None.is)
