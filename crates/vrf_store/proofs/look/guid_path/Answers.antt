-- `vrf_store::look::guid_path` satisfies its contract.
use Rattle.std.proofs.Common.{[], sym, arith}
use Rattle.vrf_model.specs.Book.{Guid}
use Rattle.vrf_store.specs.Store.{store_of, guid_at}
use Rattle.vrf_store.proofs.Laws.Memory.WellFormed.{guid-row, guid-text}
use Rattle.vrf_store.proofs.Laws.Lookups.{guid-at, guid-past}
use Rattle.vrf_store.proofs.look.guid_path.Goals as goal

pub row_text-requires : goal.row_text-requires
row_text-requires c =
    (guid-row c.requires.valid c.guid_rows.ensures (omega arith), guid-text c.requires.valid c.guid_rows.ensures c.texts.ensures (omega arith))

pub returns-then-i-guids : goal.returns-then-i-guids
unfolding guid_at
returns-then-i-guids c =
    let there = guid-at (store_of c.args.m.now) [] c.args.i (λ (g : Guid). g.path) (omega arith) in
    cc

pub returns : goal.returns
returns c = sym (guid-past (store_of c.args.m.now) [] c.args.i (λ (g : Guid). g.path) (omega arith))
