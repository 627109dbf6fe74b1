-- The walk finds the row itself.
use Rattle.std.proofs.Common.{◌∙◌, ap}
use Rattle.vrf_store.specs.Check.{found_ok, is_place}
use Rattle.vrf_check.proofs.Laws.Tests.{found-place}
use Rattle.vrf_check.proofs.found_ok.Goals as goal

pub returns : goal.returns
unfolding found_ok
returns c = c.eq.ensures ∙ found-place c.args.e c.find.result ∙ ap (is_place c.args.e) (cc)
