-- `vrf_table::spell::spell` satisfies its contract: one case for each kind of key.
use Rattle.std.proofs.Common.{length, ap, arith}
use Rattle.vrf_path.specs.Keys.{default_prefix, characters_core}
use Rattle.vrf_table.proofs.spell.spell.Goals as goal

pub join-requires-in-Prefixed : goal.join-requires-in-Prefixed
unfolding default_prefix
join-requires-in-Prefixed c = let fits = rw c.in-Prefixed.is at c.requires in omega (arith, fits)

pub join-requires-in-Inserted : goal.join-requires-in-Inserted
unfolding characters_core
join-requires-in-Inserted c =
    let fits = rw c.in-Inserted.is at c.requires in
    omega (arith, fits, ap length c.following-in-Inserted.ensures)

pub returns-in-Prefixed : goal.returns-in-Prefixed
unfolding default_prefix
returns-in-Prefixed c = rw c.in-Prefixed.is c.join-in-Prefixed.ensures

pub returns-in-Inserted : goal.returns-in-Inserted
unfolding characters_core
returns-in-Inserted c =
    rw c.in-Inserted.is (rw c.following-in-Inserted.ensures at c.join-in-Inserted.ensures)
