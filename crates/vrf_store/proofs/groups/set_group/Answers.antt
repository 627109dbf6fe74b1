-- `vrf_store::groups::set_group` satisfies its contract: the group keeps its fields, which are below the larger slot count.
use Rattle.std.proofs.Common.{◌≡◌, ℕ, ◌+◌, ◌-◌, max, List, ap, ◌∙◌, arith}
use Rattle.vrf_table.specs.Table.{info}
use Rattle.vrf_store.proofs.Laws.Groups.Replaced.{row_in, merge-old, merge-handles, merge-content, stepped-as}
use Rattle.vrf_store.proofs.groups.set_group.Goals as goal

pub row_info-requires : goal.row_info-requires
row_info-requires c = rw c.group_rows.ensures (row_in c.requires.good.valid c.args.e c.requires.known)

-- the larger slot count
larger : {n i j : ℕ} (s : ℕ) → n ≡ max i s → i ≡ j → n ≡ j + (s - j)
larger s en ei = omega (arith, en, ei)

pub set_row-requires : goal.set_row-requires
set_row-requires c =
    let x = c.args in
    let most = larger x.slots c.max-most.ensures (c.row_info.ensures ∙ ap (λ (r : List ℕ). info r x.e) c.group_rows.ensures) in
    (merge-old c.requires _ most, merge-handles c.requires _ most)

pub returns : goal.returns
returns c =
    let x = c.args in
    stepped-as c.set_row.ensures (merge-content c.requires c.max-most.result (larger x.slots c.max-most.ensures (c.row_info.ensures ∙ ap (λ (r : List ℕ). info r x.e) c.group_rows.ensures)))
