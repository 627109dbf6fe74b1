-- `vrf_words::put_piece` satisfies its contract: the part of m now holds the part of t.
use Rattle.std.proofs.Common.{ℕ, ◌≡◌, ◌+◌, ◌-◌, ◌∙◌, ap, take, drop, arith}
use Rattle.vrf_words.specs.Words.{part}
use Rattle.vrf_words.proofs.Laws.Words.{length_part}
use Rattle.vrf_words.proofs.Writes.{put_mid-pasted}
use Rattle.vrf_words.proofs.put_piece.Goals as goal

pub returns : goal.returns
unfolding part
returns g c =
    let t = c.args.t.now in
    let k = c.args.k in
    let count : k + g.row.N - k ≡ g.row.N = omega arith in
    let read = (rw c.unwrap-piece.ensures at c.try_into.ensures.1).same in
    put_mid-pasted _ (part t k g.row.N) _ _ (c.copy_from_slice.ensures.after ∙ read ∙ ap (λ (n : ℕ). take n (drop k t)) count) (length_part t k g.row.N c.requires.0 ∙ omega arith)
