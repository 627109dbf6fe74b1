-- The laws about a record with a new path.
use Rattle.std.proofs.Common.{ℕ, length, refl, ap, arith}
use Rattle.std.proofs.lemmas.Result.{err_from_is_err_and}
use Rattle.vrf_cache.specs.Inner.Passed.{passes_by}
use Rattle.vrf_cache.proofs.Laws.Guids.{path-held, other-full, release-path, other-space, other-guid, other-taken}
use Rattle.vrf_cache.proofs.guids.change_guid.Goals as goal

pub fits-requires : goal.fits-requires
fits-requires c =
    let p = c.requires in
    (p.good, omega arith, omega arith, omega arith, rw c.guid_path.ensures (path-held p.good p.known), p.is_text.short)

pub returns-in_err-fits : goal.returns-in_err-fits
returns-in_err-fits c =
    let p = err_from_is_err_and c.from_residual.result c.from_residual.ensures.1 in
    rw (p.1, p.2) (other-full c.args.outer c.requires (ap (λ (n : ℕ). passes_by c.args.m.now 0 0 0 n (length c.args.path.now)) (ap length c.guid_path.ensures)) c.in_err-fits.ensures refl)

pub set_guid-requires : goal.set_guid-requires
set_guid-requires c = release-path c.requires

pub keep_text-span-requires : goal.keep_text-span-requires
keep_text-span-requires c = other-space c.args.outer c.requires (ap (λ (n : ℕ). passes_by c.args.m.now 0 0 0 n (length c.args.path.now)) (ap length c.guid_path.ensures)) c.in_ok-fits.ensures c.set_guid.ensures

pub set_guid-requires-2 : goal.set_guid-requires-2
set_guid-requires-2 c =
    other-guid c.args.outer c.requires (ap (λ (n : ℕ). passes_by c.args.m.now 0 0 0 n (length c.args.path.now)) (ap length c.guid_path.ensures)) c.in_ok-fits.ensures c.set_guid.ensures c.keep_text-span.ensures

pub returns : goal.returns
returns c =
    other-taken c.args.outer c.requires (ap (λ (n : ℕ). passes_by c.args.m.now 0 0 0 n (length c.args.path.now)) (ap length c.guid_path.ensures)) c.in_ok-fits.ensures c.set_guid.ensures c.keep_text-span.ensures c.set_guid-2.ensures c.step.ensures
