-- The laws about a replaced group.
use Rattle.std.proofs.Common.{ℕ, length, refl, ap, arith}
use Rattle.std.proofs.lemmas.Result.{err_from_is_err_and}
use Rattle.vrf_cache.specs.Inner.Passed.{passes_by}
use Rattle.vrf_cache.proofs.Laws.Groups.Held.{texts-held}
use Rattle.vrf_cache.proofs.Laws.Groups.Replaced.{replace-full, replace-fits, replace-old, replace-taken}
use Rattle.vrf_cache.proofs.groups.replace_at.Goals as goal

pub fits-requires : goal.fits-requires
fits-requires c =
    let p = c.requires in
    (p.good, omega arith, omega arith, omega arith, rw c.group_text-gone.ensures (texts-held p.good p.known), p.is_text.short)

pub returns-in_err-fits : goal.returns-in_err-fits
returns-in_err-fits c =
    let p = err_from_is_err_and c.from_residual.result c.from_residual.ensures.1 in
    rw (p.1, p.2) (replace-full c.requires (ap (λ (n : ℕ). passes_by c.args.m.now 0 0 0 n (length c.args.path.now)) c.group_text-gone.ensures) c.in_err-fits.ensures refl)

pub put_path-span-requires : goal.put_path-span-requires
put_path-span-requires c = replace-fits c.requires (ap (λ (n : ℕ). passes_by c.args.m.now 0 0 0 n (length c.args.path.now)) c.group_text-gone.ensures) c.in_ok-fits.ensures c.drop_fields.ensures

pub replace_group-requires : goal.replace_group-requires
replace_group-requires c =
    replace-old c.requires (ap (λ (n : ℕ). passes_by c.args.m.now 0 0 0 n (length c.args.path.now)) c.group_text-gone.ensures) c.in_ok-fits.ensures c.drop_fields.ensures c.put_path-span.ensures

pub returns : goal.returns
returns c =
    replace-taken c.requires (ap (λ (n : ℕ). passes_by c.args.m.now 0 0 0 n (length c.args.path.now)) c.group_text-gone.ensures) c.in_ok-fits.ensures c.drop_fields.ensures c.put_path-span.ensures c.replace_group.ensures c.step.ensures c.step-2.ensures
