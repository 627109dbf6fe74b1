use Rattle.vrf_store.proofs.Laws.Memory.Check.{check-good}
use Rattle.bench_loops.proofs.blocks.bench_read_block.Goals as goal

pub read_unchecked-requires : goal.read_unchecked-requires
read_unchecked-requires c = check-good _ (rw c.in-Ok.is at c.«open».ensures).accepted
