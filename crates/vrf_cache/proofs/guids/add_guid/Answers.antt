-- The laws about a new record.
use Rattle.std.proofs.Common.{refl}
use Rattle.std.proofs.lemmas.Result.{err_from_is_err_and}
use Rattle.vrf_cache.proofs.Laws.Guids.{new-full, new-space, new-guid, new-taken}
use Rattle.vrf_cache.proofs.guids.add_guid.Goals as goal

pub returns-in_err-fits : goal.returns-in_err-fits
returns-in_err-fits c =
    let p = err_from_is_err_and c.from_residual.result c.from_residual.ensures.1 in
    rw (p.1, p.2) (new-full c.args.guid c.args.outer c.requires refl c.in_err-fits.ensures refl)

pub keep_text-span-requires : goal.keep_text-span-requires
keep_text-span-requires c = (c.requires.good, new-space c.args.guid c.args.outer c.requires refl c.in_ok-fits.ensures)

pub push_guid-requires : goal.push_guid-requires
push_guid-requires c = new-guid c.args.guid c.args.outer c.requires refl c.in_ok-fits.ensures c.keep_text-span.ensures

pub returns : goal.returns
returns c = new-taken c.args.guid c.args.outer c.requires refl c.in_ok-fits.ensures c.keep_text-span.ensures c.push_guid.ensures c.step.ensures
