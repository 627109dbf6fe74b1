-- `vrf_store::open::open` satisfies its contract: each refusal is that of the definition; otherwise the memory holds an empty book.
use Rattle.std.proofs.Common.{◌≤◌, length, refl, arith}
use Rattle.vrf_model.specs.Answers.{allowed_by}
use Rattle.vrf_store.specs.Layout
use Rattle.vrf_store.proofs.Laws.Opening.Opening.{within-tops, empty-enough, opened-fresh, refused-above, refused-short, accepted}
use Rattle.vrf_store.proofs.open.open.Goals as goal

pub returns-in-Some : goal.returns-in-Some
returns-in-Some c = (refused-above _ c.above_top.ensures c.in-Some.is (length c.args.m.now), refl)

pub needed-bytes-requires : goal.needed-bytes-requires
needed-bytes-requires c = within-tops _ c.above_top.ensures c.in_default.is

pub returns-then-m-bytes : goal.returns-then-m-bytes
returns-then-m-bytes c = (refused-short _ c.above_top.ensures c.in_default.is (length c.args.m.now) c.needed-bytes.ensures c.if-m-bytes.true, refl)

pub write_header-requires : goal.write_header-requires
write_header-requires c = (omega (arith, c.needed-bytes.ensures, c.if-m-bytes.false), within-tops _ c.above_top.ensures c.in_default.is)

pub zero_heads-requires : goal.zero_heads-requires
zero_heads-requires c =
    empty-enough _ 0 c.write_header.new.m c.write_header.ensures.0 (omega (arith, c.needed-bytes.ensures, c.if-m-bytes.false, c.write_header.ensures.2))

pub returns : goal.returns
returns c =
    let a = allowed_by c.args.allowed in
    let space : Layout.need a ≤ length c.args.m.now = omega (arith, c.needed-bytes.ensures, c.if-m-bytes.false) in
    let header = c.write_header.ensures in
    opened-fresh a (accepted a c.above_top.ensures c.in_default.is (length c.args.m.now) space) (within-tops a c.above_top.ensures c.in_default.is) space header.0 header.1 header.2 c.zero_heads.ensures
