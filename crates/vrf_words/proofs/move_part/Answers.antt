-- `vrf_words::move_part` satisfies its contract: the half with the new place has the bytes written in it, and the other half is unchanged.
use Rattle.std.proofs.Common.{◌+◌, ◌-◌, ◌≤◌, ◌++◌, ◌∙◌, sym, ap, List, ℕ, take, drop, arith}
use Rattle.vrf_bitio.specs.Pasted.{pasted}
use Rattle.vrf_words.specs.Words.{part}
use Rattle.vrf_words.specs.Inner.Words.{below, above}
use Rattle.vrf_words.proofs.Laws.Words.{length_part}
use Rattle.vrf_words.proofs.Writes.{pasted-in_front, pasted-to_back, part-of_front}
use Rattle.vrf_words.proofs.move_part.Goals as goal

pub returns-then-from-to : goal.returns-then-from-to
returns-then-from-to c =
    let a = c.args in
    let m = a.m.now in
    let s = c.split_at_mut-front.ensures in
    let v = part m a.from a.n in
    let front = c.split_at_mut-front.result.0.now in
    let back = c.split_at_mut-front.result.1.now in
    let end : a.from + a.n ≤ a.to = elim c.requires.2 [ below g ↦ g | above g ↦ omega arith ] in
    let read = ap (λ (l : List ℕ). take (a.from + a.n - a.from) (drop a.from l)) s.front ∙ part-of_front m a.to a.from a.n end in
    ap (λ (x : List ℕ). front ++ x) (c.put_part.ensures ∙ ap (pasted back 0) read)
    ∙ pasted-to_back front back v a.to s.front_len
    ∙ ap (λ (l : List ℕ). pasted l a.to v) (sym s.value)

pub returns-else-from-to : goal.returns-else-from-to
unfolding part
returns-else-from-to c =
    let a = c.args in
    let m = a.m.now in
    let s = c.split_at_mut-front-else-from-to.ensures in
    let v = part m a.from a.n in
    let end : a.to + a.n ≤ a.from = elim c.requires.2 [ below g ↦ omega arith | above g ↦ g ] in
    let size = length_part m a.from a.n c.requires.0 in
    let front = c.split_at_mut-front-else-from-to.result.0.now in
    let back = c.split_at_mut-front-else-from-to.result.1.now in
    ap (λ (l : List ℕ). l ++ back) (c.put_part-else-from-to.ensures ∙ ap (λ (l : List ℕ). pasted front a.to (take a.n l)) s.back)
    ∙ pasted-in_front front back v a.to (omega (arith, size, s.front_len))
    ∙ ap (λ (l : List ℕ). pasted l a.to v) (sym s.value)
