-- The writer's block is inside the buffer.
use Rattle.vrf_script_calls.proofs.Written.{wrote-in}
use Rattle.vrf_script_calls.proofs.blocks.write_into.Goals as goal

pub returns : goal.returns
returns c = rw c.fill.ensures.len at (wrote-in c.write_checkpoint_tables.result c.write_checkpoint_tables.ensures)
