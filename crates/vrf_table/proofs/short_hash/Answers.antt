-- `vrf_table::short_hash` satisfies its contract: four turns, starting from the length.
use Rattle.vrf_table.proofs.Hashes.{hash-short}
use Rattle.vrf_table.proofs.short_hash.Goals as goal

pub returns : goal.returns
returns c =
    hash-short c.args.t.now _ _ _ _ _ _ c.requires c.four_or_zeros.ensures.0 c.four_or_zeros-2.ensures.0 c.turn.ensures c.turn-2.ensures c.turn-3.ensures c.turn-4.ensures
