-- The laws about one more group.
use Rattle.std.proofs.Common.{refl}
use Rattle.std.proofs.lemmas.Result.{err_from_is_err_and}
use Rattle.vrf_cache.proofs.Laws.Groups.Steps.{new-full, new-space, new-group, new-taken}
use Rattle.vrf_cache.proofs.groups.append_group.Goals as goal

pub returns-in_err-fits : goal.returns-in_err-fits
returns-in_err-fits c =
    let p = err_from_is_err_and c.from_residual.result c.from_residual.ensures.1 in
    rw (p.1, p.2) (new-full c.requires refl c.in_err-fits.ensures refl)

pub keep_text-span-requires : goal.keep_text-span-requires
keep_text-span-requires c = (c.requires.good, new-space c.requires refl c.in_ok-fits.ensures)

pub push_group-requires : goal.push_group-requires
push_group-requires c = new-group c.requires refl c.in_ok-fits.ensures c.keep_text-span.ensures

pub returns : goal.returns
returns c = new-taken c.requires refl c.in_ok-fits.ensures c.keep_text-span.ensures c.groups-n.ensures c.push_group.ensures c.step.ensures
