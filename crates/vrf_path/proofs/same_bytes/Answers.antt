-- The pairs are all equal if and only if the texts are the same.
use Rattle.std.proofs.Common.{rules, tests}
use Rattle.std.proofs.lemmas.Iterator.{YieldsList-from_slice, YieldsList-from_zip, same_from_all}
use Rattle.std.proofs.lemmas.Bool.Decides.{same_from_decides}
use Rattle.vrf_path.specs.Text.{same}
use Rattle.vrf_path.proofs.Laws.Text.{same-decides}
use Rattle.vrf_path.proofs.same_bytes.Goals as goal

pub returns : goal.returns
returns c =
    let a = c.args.a.now in
    let b = c.args.b.now in
    let equal = same_from_all c.all.new.self _ c.all.result a b c.all.ensures.ran (YieldsList-from_zip (YieldsList-from_slice a cc) (YieldsList-from_slice b cc)) c.requires
    (λ x q k. search (rules, tests)) (λ x q k. search (rules, tests)) in
    same_from_decides _ (same a b) equal (same-decides a b)
