-- Laws about a key that the code answers: one that is there is its bytes (`key_bytes`), and one that is absent spells nothing. For the
-- functions that compare or hash a key without building it.
use Rattle.std.specs.Prelude.{◌≡◌, List, ℕ, Some, None}
use Rattle.std.specs.Prelude.{Option as Maybe}
use Rattle.std.proofs.Math.Option.{none, some}
use Rattle.vrf_path.specs.Answers.{spelled, key_bytes}
use Rattle.vrf_path.specs.declared.Key.{Key}

pub spelled-bytes : (t : List ℕ) {o : Maybe Key} {k : Key} → o ≡ Some k → spelled t o ≡ some (key_bytes t k)
spelled-bytes t e = rw e

pub spelled-absent : (t : List ℕ) {o : Maybe Key} → o ≡ None → spelled t o ≡ none
spelled-absent t e = rw e
