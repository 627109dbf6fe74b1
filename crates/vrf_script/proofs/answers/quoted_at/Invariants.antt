-- The place is within the buffer, which keeps its length.
use Rattle.std.specs.Prelude.{◌≡◌, ◌≤◌, length}
use Rattle.vrf_script.proofs.answers.quoted_at.Given as goal

abbrev pub invariant-loop-b : goal.invariant-loop-b
invariant-loop-b l = (length l.out ≡ length l.initial.out) × (l.to ≤ length l.initial.out)
