-- How a function ends at a `?`: it answers the refusal of the call before. Used by the proofs of all functions.
use Rattle.std.specs.Prelude.{◌≡◌, Result, Ok, Err, IsErrAnd}
use Rattle.vrf_bitio.specs.declared.Refusal.{Refusal}

pub err-passed : {A : Type 0} (x : Result A Refusal) (q : Refusal) → IsErrAnd x (λ y. y ≡ q) → x ≡ Err q
err-passed (Err y) q e = rw e
err-passed (Ok v) q e = absurd e
