-- `vrf_store::look::group_index` satisfies its contract.
use Rattle.std.proofs.Common.{ℕ, List, sym, ap, ◌∙◌, arith}
use Rattle.vrf_model.specs.Book.{Group}
use Rattle.vrf_table.specs.Table.{key}
use Rattle.vrf_store.specs.Store.{store_of, group_by}
use Rattle.vrf_store.proofs.Laws.Memory.WellFormed.{group-row}
use Rattle.vrf_store.proofs.Laws.Lookups.{group-at, group-past}
use Rattle.vrf_store.proofs.look.group_index.Goals as goal

pub row_key-requires : goal.row_key-requires
row_key-requires c = group-row c.requires.valid c.group_rows.ensures (omega arith)

pub overflow_cast-result : goal.overflow_cast-result
overflow_cast-result c =
    let i = c.args.i in
    let same = c.row_key.ensures ∙ ap (λ (r : List ℕ). key r i) c.group_rows.ensures in
    omega (arith, (c.requires.valid.groups i (omega arith)).0)

pub returns-then-i-groups : goal.returns-then-i-groups
unfolding group_by
returns-then-i-groups c =
    let there = group-at (store_of c.args.m.now) 0 c.args.i (λ (g : Group). g.index) (omega arith) in
    cc

pub returns : goal.returns
returns c =
    sym (group-past (store_of c.args.m.now) 0 c.args.i (λ (g : Group). g.index) (omega arith))
