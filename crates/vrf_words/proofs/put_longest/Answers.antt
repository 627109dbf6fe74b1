-- `vrf_words::put_longest` satisfies its contract: each turn writes 32 bytes more, or the last 32.
use Rattle.std.proofs.Common.{◌≡◌, ℕ, ◌+◌, ◌*◌, min, length, subst, arith}
use Rattle.vrf_words.proofs.Copies.{PartCopied, copy_start, copy_step, copy-end}
use Rattle.vrf_words.proofs.put_longest.Goals as goal

pub loop-i-init : goal.loop-i-init
loop-i-init c =
    let a = c.args in
    let none : 0 ≡ min (32 * 0) (length a.t.now) = omega arith in
    subst (λ (j : ℕ). PartCopied a.m.now a.m.now a.t.now a.at j) none (copy_start a.m.now a.t.now a.at)

pub loop-i-preserved : goal.loop-i-preserved
loop-i-preserved c =
    let a = c.args in
    let more : c.min.result + 32 ≡ min (32 * (c.loop-i.i + 1)) (length a.t.now) = omega (arith, c.min.ensures) in
    subst (λ (j : ℕ). PartCopied a.m.now c.put_piece.new.m a.t.now a.at j) more
    (copy_step c.loop-i.invariant c.min.result 32 c.put_piece.ensures c.requires.1 (omega (arith, c.min.ensures)) (omega (arith, c.min.ensures)) (omega (arith, c.min.ensures)))

pub returns : goal.returns
returns c = copy-end c.loop-i.invariant (omega arith)
