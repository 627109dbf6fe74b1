-- `vrf_store::look::unless_zero` satisfies its contract.
use Rattle.std.proofs.Common.{eq-eqb, ne_eqb}
use Rattle.vrf_store.proofs.look.unless_zero.Goals as goal

pub returns-then-guid-eq0 : goal.returns-then-guid-eq0
returns-then-guid-eq0 c = rw (eq-eqb c.args.guid 0 c.if-guid-eq0.true)

pub returns : goal.returns
returns c = rw (ne_eqb c.args.guid 0 c.if-guid-eq0.false)
