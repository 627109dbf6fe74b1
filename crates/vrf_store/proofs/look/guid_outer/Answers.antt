-- `vrf_store::look::guid_outer` satisfies its contract.
use Rattle.std.proofs.Common.{sym, arith}
use Rattle.vrf_model.specs.Book.{Guid}
use Rattle.vrf_store.specs.Store.{store_of, guid_at}
use Rattle.vrf_store.proofs.Laws.Memory.WellFormed.{guid-row}
use Rattle.vrf_store.proofs.Laws.Lookups.{guid-at, guid-past}
use Rattle.vrf_store.proofs.look.guid_outer.Goals as goal

pub row_info-requires : goal.row_info-requires
row_info-requires c = guid-row c.requires.valid c.guid_rows.ensures (omega arith)

pub returns-then-i-guids : goal.returns-then-i-guids
unfolding guid_at
returns-then-i-guids c =
    let there = guid-at (store_of c.args.m.now) 0 c.args.i (λ (g : Guid). g.outer) (omega arith) in
    cc

pub returns : goal.returns
returns c =
    sym (guid-past (store_of c.args.m.now) 0 c.args.i (λ (g : Guid). g.outer) (omega arith))
