-- `vrf_store::groups::push_entry` satisfies its contract: it writes two words of the index, or none.
use Rattle.vrf_store.proofs.Laws.Memory.Entries.{entry-written, entry_absent}
use Rattle.vrf_store.proofs.groups.push_entry.Goals as goal

pub returns-in-Some : goal.returns-in-Some
returns-in-Some c =
    let x = c.args in
    let one = rw c.in-Some.is at c.requires.2 in
    rw c.in-Some.is (cc (entry-written x.m.now x.at x.n x.k c.requires.0 x.i c.requires.1 c.in-Some.h one x.p))

pub returns-in_default : goal.returns-in_default
returns-in_default c =
    let x = c.args in
    rw c.in_default.is (entry_absent x.m.now x.at x.n x.k c.requires.0 x.i x.p)
