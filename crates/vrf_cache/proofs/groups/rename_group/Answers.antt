-- The laws about a merged group.
use Rattle.std.proofs.Common.{ℕ, length, refl, ap, arith}
use Rattle.std.proofs.lemmas.Result.{err_from_is_err_and}
use Rattle.vrf_cache.specs.Inner.Passed.{passes_by}
use Rattle.vrf_cache.proofs.Laws.Groups.Held.{path-held}
use Rattle.vrf_cache.proofs.Laws.Groups.Steps.{old-group, merge-full, merge-fits, merge-taken}
use Rattle.vrf_cache.proofs.groups.rename_group.Goals as goal

pub fits-requires : goal.fits-requires
fits-requires c =
    let p = c.requires in
    (p.good, omega arith, omega arith, omega arith, rw c.group_path.ensures (path-held p.good p.known), p.is_text.short)

pub returns-in_err-fits : goal.returns-in_err-fits
returns-in_err-fits c =
    let p = err_from_is_err_and c.from_residual.result c.from_residual.ensures.1 in
    rw (p.1, p.2) (merge-full c.requires (ap (λ (n : ℕ). passes_by c.args.m.now 0 0 0 n (length c.args.path.now)) (ap length c.group_path.ensures)) c.in_err-fits.ensures refl)

pub put_path-span-requires : goal.put_path-span-requires
put_path-span-requires c = merge-fits c.requires (ap (λ (n : ℕ). passes_by c.args.m.now 0 0 0 n (length c.args.path.now)) (ap length c.group_path.ensures)) c.in_ok-fits.ensures

pub set_group-requires : goal.set_group-requires
set_group-requires c = old-group c.requires c.put_path-span.ensures

pub returns : goal.returns
returns c =
    merge-taken c.requires (ap (λ (n : ℕ). passes_by c.args.m.now 0 0 0 n (length c.args.path.now)) (ap length c.group_path.ensures)) c.in_ok-fits.ensures c.put_path-span.ensures c.set_group.ensures c.step.ensures
