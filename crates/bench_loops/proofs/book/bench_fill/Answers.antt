use Rattle.vrf_store.proofs.Laws.Memory.Check.{check-good}
use Rattle.bench_loops.proofs.book.bench_fill.Goals as goal

pub set_all-requires : goal.set_all-requires
set_all-requires c = check-good _ (rw c.in-Ok.is at c.«open».ensures).accepted
