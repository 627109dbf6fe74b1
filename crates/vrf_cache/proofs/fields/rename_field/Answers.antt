-- The laws about a field with a new name.
use Rattle.std.proofs.Common.{refl, arith}
use Rattle.std.proofs.lemmas.Result.{err_from_is_err_and}
use Rattle.vrf_cache.proofs.Laws.Fields.{name-held, other-full, release-path, other-space, other-taken, other_name}
use Rattle.vrf_cache.proofs.fields.rename_field.Goals as goal

pub fits-requires : goal.fits-requires
fits-requires c =
    let p = c.requires.0 in
    (p.good, omega arith, omega arith, omega arith, rw c.row_name.ensures (name-held p.good p.known), p.is_text.short)

pub returns-in_err-fits : goal.returns-in_err-fits
returns-in_err-fits c =
    let p = err_from_is_err_and c.from_residual.result c.from_residual.ensures.1 in
    rw (p.1, p.2) (other-full c.args.checksum c.requires.0 c.requires.1 c.row_name.ensures refl c.in_err-fits.ensures refl)

pub set_field_row-requires : goal.set_field_row-requires
set_field_row-requires c = let p = c.requires.0 in (p.good, release-path p.good p.known)

pub keep_text-span-requires : goal.keep_text-span-requires
keep_text-span-requires c = other-space c.args.checksum c.requires.0 c.requires.1 c.row_name.ensures refl c.in_ok-fits.ensures c.set_field_row.ensures

pub set_field_row-requires-2 : goal.set_field_row-requires-2
set_field_row-requires-2 c =
    (c.keep_text-span.ensures.stepped.good, other_name c.args.checksum c.requires.0 c.requires.1 c.row_name.ensures refl c.in_ok-fits.ensures c.set_field_row.ensures c.keep_text-span.ensures)

pub returns : goal.returns
returns c =
    other-taken c.args.checksum c.requires.0 c.requires.1 c.row_name.ensures refl c.in_ok-fits.ensures c.set_field_row.ensures c.keep_text-span.ensures c.set_field_row-2.ensures c.step.ensures
