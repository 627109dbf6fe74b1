-- `vrf_schema::checked::check_book` satisfies its contract.
use mathlib.Core.Bool.{not}
use mathlib.Core.Path.{ap}
use Rattle.vrf_store.proofs.Laws.Check.Steps.{fails, holds}
use Rattle.vrf_schema.proofs.checked.check_book.Goals as goal

pub returns-then-not-check : goal.returns-then-not-check
returns-then-not-check c = record { answer = rw (fails c.check.ensures (ap not c.if-not-check.true)) }

pub returns : goal.returns
returns c = record { answer = rw (holds c.check.ensures (ap not c.if-not-check.false)) }
