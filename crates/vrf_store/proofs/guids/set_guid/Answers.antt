-- `vrf_store::guids::set_guid` satisfies its contract: the law `set-guid` gives the memory after its writes. The bytes held include the old
-- path.
use Rattle.vrf_store.proofs.Laws.Guids.{path-held, set-guid}
use Rattle.vrf_store.proofs.guids.set_guid.Goals as goal

pub overflow_sub-total : goal.overflow_sub-total
overflow_sub-total c =
    rw (c.text_len.ensures, c.guid_rows.ensures, c.held.ensures) (path-held c.requires.good.valid c.args.e c.requires.known)

pub returns : goal.returns
returns c =
    let args = c.args in
    let row = c.put_text in
    set-guid args.m.now args.e args.span.at args.span.len args.outer c.requires c.ranges.outer.fits
    c.guids_allowed-cap.ensures.0 (rw (c.held.ensures, c.text_len.ensures, c.guid_rows.ensures))
    (record { long = row.auto.rows; made = row.ensures }) c.put32.ensures
