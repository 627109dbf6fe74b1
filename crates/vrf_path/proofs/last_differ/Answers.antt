-- Word by word, from the end.
use Rattle.std.proofs.Common.{◌≡◌, ◌-◌, true, length, drop, arith}
use Rattle.vrf_path.specs.Text.{same}
use Rattle.vrf_path.proofs.Laws.Text.{same_ended, agree-before}
use Rattle.vrf_path.proofs.Texts.{differ-four}
use Rattle.vrf_path.proofs.last_differ.Goals as goal

pub returns : goal.returns
returns c =
    let a = c.args.a.now in
    let b = c.args.b.now in
    let before = agree-before a b (λ i. (c.type_inv.a i).fits) (λ i. (c.type_inv.b i).fits) in
    let end : same (drop (length a) a) (drop (length a) b) ≡ true = same_ended a b (length a) (omega arith) (omega arith) in
    differ-four a b c.eight_differ.result c.eight_differ-2.result c.eight_differ-3.result c.eight_differ-4.result
    c.eight_differ.ensures (rw c.saturating_sub.ensures at c.eight_differ-2.ensures)
    (rw c.saturating_sub-2.ensures at c.eight_differ-3.ensures) (rw c.saturating_sub-3.ensures at c.eight_differ-4.ensures)
    (λ e8 e16 e24 e32.
    before (length a - 24) (length a - 32) (omega arith) (omega arith) (omega arith) e32
    (before (length a - 16) (length a - 24) (omega arith) (omega arith) (omega arith) e24
    (before (length a - 8) (length a - 16) (omega arith) (omega arith) (omega arith) e16
    (before (length a) (length a - 8) (omega arith) (omega arith) (omega arith) e8 end))))
