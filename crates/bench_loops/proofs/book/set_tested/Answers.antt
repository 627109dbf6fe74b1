use Rattle.vrf_text.proofs.Laws.Text.{caller_text-text}
use Rattle.bench_loops.proofs.book.set_tested.Goals as goal

pub set-requires : goal.set-requires
set-requires c = (c.requires, caller_text-text _ (rw c.in-Ok.is at c.check_text.ensures))
