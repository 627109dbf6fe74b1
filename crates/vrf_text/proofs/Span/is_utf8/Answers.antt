-- `vrf_text::Span::is_utf8` satisfies its contract: bytes that begin at a byte of the slice are a part of the slice.
use Rattle.std.proofs.Common.{arith, ◌≡◌, ◌*◌, ◌/◌}
use Rattle.vrf_text.proofs.Span.is_utf8.Goals as goal

pub returns : goal.returns
returns c =
    let aligned : 8 * (c.args.self.at / 8) ≡ c.args.self.at = omega arith in
    rw aligned at c.is_utf8_part.ensures
