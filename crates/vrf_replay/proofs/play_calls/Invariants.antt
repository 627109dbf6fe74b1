use Rattle.std.specs.Prelude.{◌≤◌, length}
use Rattle.vrf_script_calls.specs.Inner.Areas.{total}
use Rattle.vrf_script_calls.specs.Inner.Blocks.{KeptIn}
use Rattle.vrf_replay.proofs.play_calls.Given as goal

abbrev pub invariant-loop-n : goal.invariant-loop-n
invariant-loop-n l = (total l.played.books ≤ length l.memory) × KeptIn (length l.scratch) l.played.kept
