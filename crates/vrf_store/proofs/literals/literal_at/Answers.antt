-- `vrf_store::literals::literal_at` satisfies its contract.
use Rattle.std.proofs.Common.{length, ap, arith}
use Rattle.vrf_store.proofs.Laws.Literals.{literals-long}
use Rattle.vrf_store.proofs.literals.literal_at.Goals as goal

pub get32-requires : goal.get32-requires
get32-requires c = omega (arith, ap length c.literals.ensures, literals-long c.requires.0)
