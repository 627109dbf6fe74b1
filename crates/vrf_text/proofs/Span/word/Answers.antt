-- `vrf_text::Span::word` satisfies its contract.
use Rattle.std.proofs.Common.{◌≡◌, ◌-◌, ◌*◌, min, arith}
use Rattle.vrf_text.proofs.Runs.{holds-all, holds-eight}
use Rattle.vrf_text.proofs.Span.word.Goals as goal

pub returns-then-left-lt8 : goal.returns-then-left-lt8
returns-then-left-lt8 c =
    let few : min (8 * (c.args.self.len - c.args.i)) 64 ≡ 8 * (c.args.self.len - c.args.i) = omega arith in
    holds-all _ _ _ _ (rw few at c.bits_at.ensures)

pub returns-else-left-lt8 : goal.returns-else-left-lt8
returns-else-left-lt8 c = holds-eight _ _ _ _ c.if-left-lt8.false c.bits_at-else-left-lt8.ensures
