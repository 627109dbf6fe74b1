-- `vrf_path::same_words` satisfies its contract: the two texts are the same from place i on if and only if the whole texts are.
use mathlib.Core.Path.{sym}
use Prim.Native.Nat.{◌-◌}
use native.Mathlib.Omega.{arith}
use lib.ListN.{length}
use Rattle.vrf_path.proofs.Laws.Text.{end-decides}
use Rattle.vrf_path.proofs.same_words.Goals as goal

pub returns : goal.returns
returns c =
    let a = c.args in
    sym (end-decides a.a.now a.b.now (length a.a.now - 32) c.loop-i.i (omega arith) c.loop-i.invariant.2 (rw c.if-last_differ.false at c.last_differ.ensures))
