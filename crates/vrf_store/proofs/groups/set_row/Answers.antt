-- `vrf_store::groups::set_row` satisfies its contract: it writes the row and a number, and rebuilds the indexes.
use Rattle.std.proofs.Common.{ℕ, List, ap, ◌∙◌}
use Rattle.vrf_table.specs.Table.{len}
use Rattle.vrf_store.proofs.Laws.Groups.Replaced.{path-held, set-written, set-ready, set-stepped}
use Rattle.vrf_store.proofs.groups.set_row.Goals as goal

pub overflow_sub-total : goal.overflow_sub-total
overflow_sub-total c =
    rw (c.text_len.ensures, c.group_rows.ensures, c.held.ensures) (path-held c.requires.0.good.valid c.args.e c.requires.0.known)

pub rebuild_group_indexes-requires : goal.rebuild_group_indexes-requires
rebuild_group_indexes-requires c =
    let x = c.args in
    let written = set-written x.m.now x.e x.index x.span.at x.span.len x.slots c.requires.0 c.ranges.index.fits c.requires.1 c.held.ensures (c.text_len.ensures ∙ ap (λ (r : List ℕ). len r x.e) c.group_rows.ensures) c.put_group.ensures c.put32.ensures in
    set-ready x.m.now x.e x.index x.span.at x.span.len x.slots c.requires.0 c.ranges.index.fits c.requires.1 written

pub returns : goal.returns
returns c =
    let x = c.args in
    let written = set-written x.m.now x.e x.index x.span.at x.span.len x.slots c.requires.0 c.ranges.index.fits c.requires.1 c.held.ensures (c.text_len.ensures ∙ ap (λ (r : List ℕ). len r x.e) c.group_rows.ensures) c.put_group.ensures c.put32.ensures in
    set-stepped x.m.now x.e x.index x.span.at x.span.len x.slots c.requires.0 c.ranges.index.fits c.requires.1 written c.rebuild_group_indexes.ensures
