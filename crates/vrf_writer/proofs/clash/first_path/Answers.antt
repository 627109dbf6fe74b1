-- The search compares k with the path of each group in turn.
use Rattle.std.proofs.Common.{◌≡◌, true, false, rules, tests}
use Rattle.std.proofs.lemmas.Iterator.{first_from_Range}
use Rattle.vrf_store.specs.Store.{store_of}
use Rattle.vrf_writer.proofs.Laws.Clash.{path_looked, first-looked}
use Rattle.vrf_writer.proofs.clash.first_path.Goals as goal

pub returns : goal.returns
returns c =
    let s = store_of c.args.m.now in
    let k = c.args.k.now in
    let found = first_from_Range _ _ _ c.find.result (λ j. path_looked s k j ≡ true) (λ j. path_looked s k j ≡ false) c.find.ensures.ran (λ j q e. search (rules, tests)) (λ j q e. search (rules, tests)) in
    first-looked s k c.args.h c.args.to c.find.result c.requires.2 found
