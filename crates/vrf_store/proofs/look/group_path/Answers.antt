-- `vrf_store::look::group_path` satisfies its contract.
use Rattle.std.proofs.Common.{[], sym, arith}
use Rattle.vrf_model.specs.Book.{Group}
use Rattle.vrf_store.specs.Store.{store_of, group_by}
use Rattle.vrf_store.proofs.Laws.Memory.WellFormed.{group-row, group-text}
use Rattle.vrf_store.proofs.Laws.Lookups.{group-at, group-past}
use Rattle.vrf_store.proofs.look.group_path.Goals as goal

pub row_text-requires : goal.row_text-requires
row_text-requires c =
    (group-row c.requires.valid c.group_rows.ensures (omega arith), group-text c.requires.valid c.group_rows.ensures c.texts.ensures (omega arith))

pub returns-then-i-groups : goal.returns-then-i-groups
unfolding group_by
returns-then-i-groups c =
    let there = group-at (store_of c.args.m.now) [] c.args.i (λ (g : Group). g.path) (omega arith) in
    cc

pub returns : goal.returns
returns c = sym (group-past (store_of c.args.m.now) [] c.args.i (λ (g : Group). g.path) (omega arith))
