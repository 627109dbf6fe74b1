-- `vrf_store::groups::grow_group` satisfies its contract: the law `grow-stepped` gives the memory after the write, if there is one.
use Rattle.std.proofs.Common.{arith}
use Rattle.vrf_store.proofs.Laws.Groups.Merged.{info-word, grow-stepped, grow-skipped}
use Rattle.vrf_store.proofs.groups.grow_group.Goals as goal

pub returns-then-get32-slots : goal.returns-then-get32-slots
returns-then-get32-slots c =
    let x = c.args in
    let guids = c.guids_allowed.ensures.0 in
    let count = info-word c.requires.0 x.e x.slots c.requires.1 c.requires.2 guids in
    grow-stepped c.requires.0 x.e x.slots c.requires.1 c.requires.2 guids (omega (arith, c.if-get32-slots.true, c.get32.ensures, count)) c.put32.ensures

pub returns-else-get32-slots : goal.returns-else-get32-slots
returns-else-get32-slots c =
    let x = c.args in
    let guids = c.guids_allowed.ensures.0 in
    let count = info-word c.requires.0 x.e x.slots c.requires.1 c.requires.2 guids in
    grow-skipped c.requires.0 x.e x.slots c.requires.1 c.requires.2 guids (omega (arith, c.if-get32-slots.false, c.get32.ensures, count))
