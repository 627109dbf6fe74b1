-- `vrf_words::zero_words` satisfies its contract: the part now holds zeros alone.
use Rattle.std.proofs.Common.{ℕ, ◌≡◌, ◌+◌, ◌-◌, ◌*◌, ◌∙◌, length, take, drop, ap, arith, length-take, length-drop}
use Rattle.std.specs.Prelude.{replicate}
use Rattle.std.proofs.lemmas.List.{length-replicate}
use Rattle.vrf_words.proofs.Writes.{put_mid-pasted}
use Rattle.vrf_words.proofs.zero_words.Goals as goal

pub returns : goal.returns
returns c =
    let a = c.args in
    let long : length (take (4 * (a.i + a.n) - 4 * a.i) (drop (4 * a.i) a.m.now)) ≡ 4 * a.n = rw (length-take, length-drop) (omega arith) in
    put_mid-pasted _ (replicate (4 * a.n) 0) _ _ (c.fill.ensures.after (λ y e. e) ∙ ap (λ (k : ℕ). replicate k 0) long) (rw length-replicate (omega arith))
