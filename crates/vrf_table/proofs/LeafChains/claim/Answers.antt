-- `vrf_table::LeafChains::claim` satisfies its contract: a claim is two walks.
use Rattle.std.proofs.Common.{◌<◌, refl, arith}
use Rattle.vrf_table.proofs.Walks.{found_below, claim-absent, claim-one, claim-several}
use Rattle.vrf_table.proofs.LeafChains.claim.Goals as goal

pub get32-requires : goal.get32-requires
get32-requires c = omega (arith, found_below _ _ _ refl c.find.ensures c.in-Some.is)

pub find-requires-in-Some : goal.find-requires-in-Some
find-requires-in-Some c =
    let less : c.in-Some.e < c.args.self.now.groups.count = found_below _ _ _ refl c.find.ensures c.in-Some.is in
    (c.requires, omega arith)

pub returns-in-None : goal.returns-in-None
returns-in-None c = claim-absent _ _ _ refl c.find.ensures c.in-None.is

pub returns-in-None-find : goal.returns-in-None-find
returns-in-None-find c = claim-one _ _ _ refl c.find.ensures c.in-Some.is c.get32.ensures c.find-in-Some.ensures c.in-None-find.is

pub returns-in-Some-find : goal.returns-in-Some-find
returns-in-Some-find c = claim-several _ _ _ refl c.find.ensures c.in-Some.is c.get32.ensures c.find-in-Some.ensures c.in-Some-find.is
