-- `vrf_path::four_separators` satisfies its contract.
use native.Mathlib.Omega.{arith}
use Rattle.vrf_path.proofs.Laws.Keys.{four-next}
use Rattle.vrf_path.proofs.four_separators.Goals as goal

pub returns : goal.returns
returns c =
    let a = c.args in
    four-next _ a.i (omega arith) c.is_separator.ensures c.is_separator-2.ensures c.is_separator-3.ensures c.is_separator-4.ensures
