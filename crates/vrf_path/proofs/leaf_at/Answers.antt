-- The leaf, by the place of the last dot.
use Rattle.std.proofs.Common.{sym, length, arith}
use Prim.Native.Char.{code}
use Rattle.vrf_path.proofs.Laws.Text.{last_within}
use Rattle.vrf_path.proofs.Laws.Leaf.{leaf-following, leaf-empty, leaf-no-dot}
use Rattle.vrf_path.proofs.leaf_at.Goals as goal

pub returns-in_err-i : goal.returns-in_err-i
returns-in_err-i c = rw c.from_residual.ensures (leaf-no-dot _ (sym c.in_err-i.ensures))

pub overflow_add-i : goal.overflow_add-i
overflow_add-i c = omega (arith, last_within (code ".") c.args.path.now (length c.args.path.now) (sym c.in_ok-i.ensures))

pub returns-then-i-path : goal.returns-then-i-path
returns-then-i-path c = (leaf-following _ (sym c.in_ok-i.ensures) c.if-i-path.true, c.if-i-path.true)

pub returns : goal.returns
returns c = leaf-empty _ (sym c.in_ok-i.ensures) c.if-i-path.false
