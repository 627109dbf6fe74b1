-- `vrf_path::four_differ` satisfies its contract: word by word.
use native.Mathlib.Omega.{arith}
use Rattle.vrf_path.proofs.Laws.Text.{agree-words}
use Rattle.vrf_path.proofs.Texts.{differ-four}
use Rattle.vrf_path.proofs.four_differ.Goals as goal

pub returns : goal.returns
returns c =
    let a = c.args.a.now in
    let b = c.args.b.now in
    differ-four a b c.eight_differ.result c.eight_differ-2.result c.eight_differ-3.result c.eight_differ-4.result c.eight_differ.ensures c.eight_differ-2.ensures c.eight_differ-3.ensures c.eight_differ-4.ensures
    (agree-words a b (λ i. (c.shared_slice_known-1.given i).fits) (λ i. (c.shared_slice_known-2-1.given i).fits) _ (omega arith) (omega arith))
