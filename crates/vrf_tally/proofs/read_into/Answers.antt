-- `vrf_tally::read_into` satisfies its contract.
use Rattle.vrf_model.specs.Calls.{whole}
use Rattle.vrf_tally.specs.Tally.{allowances}
use Rattle.vrf_tally.proofs.Laws.Reading.{never-refused, answered-by}
use Rattle.vrf_tally.proofs.read_into.Goals as goal

pub returns-in_err-open : goal.returns-in_err-open
unfolding allowances
returns-in_err-open c = absurd (never-refused c.requires.0 _ c.in_err-open.ensures)

pub returns : goal.returns
unfolding allowances whole
returns c = answered-by c.in_ok-open.ensures c.args.input.now c.read_checkpoint_tables.ensures
