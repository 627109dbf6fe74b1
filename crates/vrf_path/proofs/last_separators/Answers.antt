-- The last eight bytes, and the eight bytes that end or begin before them.
use Rattle.std.proofs.Common.{◌≡◌, ◌+◌, ◌-◌, Bool, ◌||◌, ap, ◌∙◌, length, drop, arith}
use Rattle.std.proofs.Math.Bool.{or-false}
use Rattle.vrf_path.specs.Keys.{has_separator}
use Rattle.vrf_path.proofs.Laws.Keys.{separator-nowhere, separators-or}
use Rattle.vrf_path.proofs.last_separators.Goals as goal

pub returns : goal.returns
returns c =
    let t = c.args.t.now in
    let x = c.eight_separators.result in
    let y = c.eight_separators-2.result in
    let end : has_separator (drop (length t - 8) t) ≡ y = c.eight_separators-2.ensures ∙ ap (λ (b : Bool). y || b) (separator-nowhere t (length t - 8 + 8) (omega arith)) ∙ or-false y in
    separators-or t (length t - 16) (length t - 8) (length t - 16 + 8) (omega arith) (omega arith) x y (rw c.saturating_sub.ensures at c.eight_separators.ensures) end
