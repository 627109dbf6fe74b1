-- `vrf_store::look::slot_row` satisfies its contract.
use Rattle.std.proofs.Common.{le-ltb, lt-ltb}
use Rattle.vrf_store.specs.Inner.Fields.{slot_row}
use Rattle.vrf_store.proofs.look.slot_row.Goals as goal

pub returns-then-slot-lt65536 : goal.returns-then-slot-lt65536
unfolding slot_row
returns-then-slot-lt65536 c = rw (lt-ltb c.args.slot 65536 c.if-slot-lt65536.true) c.find_field.ensures

pub returns : goal.returns
unfolding slot_row
returns c = rw (le-ltb c.args.slot 65536 c.if-slot-lt65536.false)
