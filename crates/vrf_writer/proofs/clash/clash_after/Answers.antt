-- Each key narrows down what the key before it left.
use Rattle.std.proofs.Common.{arith}
use Rattle.vrf_store.specs.Store.{store_of}
use Rattle.vrf_writer.proofs.Laws.Groups.{path-is, path-short}
use Rattle.vrf_writer.proofs.Laws.Clash.{narrowed-keys}
use Rattle.vrf_writer.proofs.clash.clash_after.Goals as goal

pub first_with_key-first-requires : goal.first_with_key-first-requires
first_with_key-first-requires c =
    let short = path-short (store_of c.args.m.now) c.args.h c.requires.1 c.requires.0.valid c.group_path-path.ensures in
    (c.requires.0, c.requires.1, c.requires.2, omega (arith, short))

pub clash_alias-second-requires : goal.clash_alias-second-requires
clash_alias-second-requires c =
    let short = path-short (store_of c.args.m.now) c.args.h c.requires.1 c.requires.0.valid c.group_path-path.ensures in
    (c.requires.0, c.requires.1, omega (arith, c.first_with_key-first.ensures.within, c.requires.2), short, omega arith)

pub clash_alias-requires : goal.clash_alias-requires
clash_alias-requires c =
    let short = path-short (store_of c.args.m.now) c.args.h c.requires.1 c.requires.0.valid c.group_path-path.ensures in
    (c.requires.0, c.requires.1, omega (arith, c.clash_alias-second.ensures.within, c.first_with_key-first.ensures.within, c.requires.2), short, omega arith)

pub returns : goal.returns
returns c =
    let s = store_of c.args.m.now in
    narrowed-keys s c.args.h (path-is s c.args.h c.requires.1 c.group_path-path.ensures) c.default_object_alias.ensures.text c.core_alias.ensures.text c.first_with_key-first.ensures c.clash_alias-second.ensures c.clash_alias.ensures
