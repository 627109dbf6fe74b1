-- `vrf_path::many_separators` satisfies its contract: the text from place i on has a separator if and only if the whole text has.
use mathlib.Core.Path.{sym}
use Prim.Native.Nat.{◌-◌}
use native.Mathlib.Omega.{arith}
use lib.ListN.{length}
use Rattle.vrf_path.proofs.Laws.Keys.{separators-end}
use Rattle.vrf_path.proofs.many_separators.Goals as goal

pub returns : goal.returns
returns c =
    let t = c.args.text.now in
    sym (separators-end t 0 (length t - 16) c.loop-i.i (omega arith) (omega arith) c.loop-i.invariant.2 c.last_separators.result c.last_separators.ensures)
