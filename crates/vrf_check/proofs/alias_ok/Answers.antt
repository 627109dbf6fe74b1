-- One case for a path with this alias, and one for a path without it.
use Rattle.vrf_check.proofs.Laws.Steps.{alias-gone, alias-there}
use Rattle.vrf_check.proofs.alias_ok.Goals as goal

pub returns-in-Some : goal.returns-in-Some
returns-in-Some c = alias-there _ _ _ _ c.in-Some.is c.alias_reaches.ensures

pub returns-in-None : goal.returns-in-None
returns-in-None c = alias-gone _ _ _ _ c.in-None.is
