-- The law about a cleared book.
use Rattle.vrf_cache.proofs.Laws.Clear.{cleared-taken}
use Rattle.vrf_cache.proofs.clear.clear.Goals as goal

pub returns : goal.returns
returns c = cleared-taken c.clear_book.ensures c.step.ensures c.step-2.ensures
