-- The first bytes of the scratch buffer are the alias.
use Rattle.std.proofs.Common.{length, ap, arith}
use Rattle.vrf_path.proofs.Laws.Answers.{spelled-bytes, spelled-absent}
use Rattle.vrf_table.proofs.Laws.Spelled.{key-short}
use Rattle.vrf_store.specs.Store.{store_of}
use Rattle.vrf_writer.proofs.Laws.Clash.{alias-none, alias-some}
use Rattle.vrf_writer.proofs.clash.clash_alias.Goals as goal

pub returns-in_default : goal.returns-in_default
returns-in_default c = alias-none (store_of c.args.m.now) (spelled-absent c.args.path.now c.in_default.is)

pub spell-n-requires : goal.spell-n-requires
spell-n-requires c = omega (arith, key-short c.args.path.now c.in-Some.key, c.requires.3, c.requires.4)

pub first_with_key-requires : goal.first_with_key-requires
first_with_key-requires c =
    (c.requires.0, c.requires.1, c.requires.2, omega (arith, ap length c.spell-n.ensures.bytes, key-short c.args.path.now c.in-Some.key, c.requires.3))

pub returns : goal.returns
returns c = alias-some (store_of c.args.m.now) (spelled-bytes c.args.path.now c.in-Some.is) (rw c.spell-n.ensures.bytes at c.first_with_key.ensures)
