-- `vrf_store::look::group_slots` satisfies its contract.
use Rattle.std.proofs.Common.{length, sym, arith}
use Rattle.vrf_model.specs.Book.{Group}
use Rattle.vrf_table.specs.Table.{info}
use Rattle.vrf_store.specs.Store.{store_of, slot_by, group_by}
use Rattle.vrf_store.proofs.Laws.Memory.UpTo.{length-up_to}
use Rattle.vrf_store.proofs.Laws.Memory.WellFormed.{group-row}
use Rattle.vrf_store.proofs.Laws.Lookups.{group-at, group-past}
use Rattle.vrf_store.proofs.look.group_slots.Goals as goal

pub row_info-requires : goal.row_info-requires
row_info-requires c = group-row c.requires.valid c.group_rows.ensures (omega arith)

pub returns-then-i-groups : goal.returns-then-i-groups
unfolding group_by
returns-then-i-groups c =
    let s = store_of c.args.m.now in
    let i = c.args.i in
    let there = group-at s 0 i (λ (g : Group). length g.slots) (omega arith) in
    let many = length-up_to (slot_by s s.header.fields i) (info s.group_rows i) in
    cc

pub returns : goal.returns
returns c =
    sym (group-past (store_of c.args.m.now) 0 c.args.i (λ (g : Group). length g.slots) (omega arith))
