-- `vrf_store::look::leaf_chains` satisfies its contract.
use Rattle.std.proofs.Common.{length, ap, arith}
use Rattle.vrf_store.specs.Store.{header_of}
use Rattle.vrf_store.proofs.Laws.Check.Valid.{need-shaped}
use Rattle.vrf_store.proofs.look.leaf_chains.Goals as goal

pub invariant_of-result : goal.invariant_of-result
invariant_of-result c =
    record { links_in = omega (arith, ap length c.leaf_links.ensures, need-shaped (header_of c.args.m.now) c.args.m.now c.requires.enough) }
