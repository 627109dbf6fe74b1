-- The eight bytes make the number. The second four begin four places later.
use Rattle.std.specs.Prelude.{ℕ, ◌<◌, get_or, drop}
use Rattle.std.proofs.Common.{◌≡◌, ◌+◌, ◌-◌, ◌∙◌, get_or-take, get_or-drop, arith}
use Rattle.vrf_path.specs.Text.{four, eight}
use Rattle.vrf_path.proofs.eight.Goals as goal

pub returns : goal.returns
unfolding eight four
returns c =
    let s = c.args.t.now in
    let i = c.args.i in
    let byte : (k : ℕ) → k < 8 → get_or c.unwrap.result k 0 ≡ get_or s (i + k) 0 = λ k h. rw (rw c.unwrap.ensures at c.try_into.ensures.1).same (get_or-take (i + 8 - i) (drop i s) k 0 (omega arith) ∙ get_or-drop i s k 0) in
    let e5 : i + 4 + 1 ≡ i + 5 = omega arith in
    let e6 : i + 4 + 2 ≡ i + 6 = omega arith in
    let e7 : i + 4 + 3 ≡ i + 7 = omega arith in
    let e0 : i + 0 ≡ i = omega arith in
    let first = rw e0 at (byte 0 (omega arith)) in
    rw (e5, e6, e7) (omega (arith, first, byte 1 (omega arith), byte 2 (omega arith), byte 3 (omega arith), byte 4 (omega arith), byte 5 (omega arith), byte 6 (omega arith), byte 7 (omega arith), c.from_le_bytes.ensures))
