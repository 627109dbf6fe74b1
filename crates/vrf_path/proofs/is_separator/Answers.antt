-- `vrf_path::is_separator` satisfies its contract.
use mathlib.Core.Path.{refl}
use Rattle.vrf_path.specs.Keys.{is_separator}
use Rattle.vrf_path.proofs.is_separator.Goals as goal

pub returns : goal.returns
unfolding is_separator
returns c = refl
