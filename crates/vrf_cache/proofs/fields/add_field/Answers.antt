-- The laws about one more field.
use Rattle.std.proofs.Common.{refl, rules}
use Rattle.std.proofs.lemmas.Result.{err_from_is_err_and}
use Rattle.vrf_cache.proofs.Laws.Fields.{new-full, new-space, new-field, new-taken}
use Rattle.vrf_cache.proofs.fields.add_field.Goals as goal

pub returns-in_err-fits : goal.returns-in_err-fits
returns-in_err-fits c =
    let p = err_from_is_err_and c.from_residual.result c.from_residual.ensures.1 in
    rw (p.1, p.2) (new-full c.args.checksum c.requires refl c.in_err-fits.ensures refl)

pub keep_text-span-requires : goal.keep_text-span-requires
keep_text-span-requires c = new-space c.args.checksum c.requires refl c.in_ok-fits.ensures

pub push_field-requires : goal.push_field-requires
push_field-requires c = (c.keep_text-span.ensures.stepped.good, new-field c.args.checksum c.requires refl c.in_ok-fits.ensures c.keep_text-span.ensures)

pub returns : goal.returns
returns c = new-taken c.args.checksum c.requires refl c.in_ok-fits.ensures c.keep_text-span.ensures (λ i. search rules) c.push_field.ensures
