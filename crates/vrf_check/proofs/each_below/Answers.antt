-- Each number passes the test.
use Rattle.std.proofs.Common.{◌∙◌, arith, rules, tests}
use Rattle.std.proofs.lemmas.Iterator.{serves_from_Range, YieldsList-from_range}
use Rattle.std.proofs.lemmas.Iterator.Search.{all_from_yields_List}
use Rattle.vrf_check.proofs.Laws.Tests.{all-listed}
use Rattle.vrf_check.proofs.each_below.Goals as goal

pub all-requires-clause-callable : goal.all-requires-clause-callable
all-requires-clause-callable g c = serves_from_Range (λ x q h. search rules) (λ x low h. search rules)

pub returns : goal.returns
returns g c = λ ok tests_ok.
    all_from_yields_List ok _ _ c.all.result c.all.ensures.ran (YieldsList-from_range 0 c.args.n c.args.n (cc) (omega arith)) (λ y b q k. search (rules, tests, tests_ok)) ∙ all-listed ok c.args.n
