-- A key is its bytes.
use Rattle.vrf_path.specs.Keys.{key_is}
use Rattle.vrf_path.proofs.is_key.Goals as goal

pub returns-in-Some : goal.returns-in-Some
unfolding key_is
returns-in-Some c = rw c.in-Some.is c.same_key.ensures

pub returns-in-None : goal.returns-in-None
unfolding key_is
returns-in-None c = rw c.in-None.is
