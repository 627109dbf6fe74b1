-- The key and the text are the same from place i on if and only if the whole ones are.
use Rattle.std.proofs.Common.{◌≡◌, drop}
use Rattle.vrf_path.specs.Text.{same}
use Rattle.vrf_path.specs.Answers.{key_bytes}
use Rattle.vrf_path.proofs.same_key.Given as goal

abbrev pub invariant-loop-i : goal.invariant-loop-i
invariant-loop-i l = let k = key_bytes l.path l.key in same k l.text ≡ same (drop l.i k) (drop l.i l.text)
