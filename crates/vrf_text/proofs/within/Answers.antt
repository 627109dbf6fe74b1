-- `vrf_text::within` satisfies its contract.
use Rattle.std.proofs.Common.{rules, tests}
use Rattle.vrf_text.specs.Utf8.{within}
use Rattle.vrf_text.proofs.within.Goals as goal

pub returns : goal.returns
unfolding within
returns c = search (rules, tests)
