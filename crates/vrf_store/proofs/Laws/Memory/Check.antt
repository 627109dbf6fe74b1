-- The check accepts exactly well-formed memory. The exported functions of `vrf_schema` use this after the check.
use Rattle.std.specs.Prelude.{◌≡◌, ℕ, true, List}
use Rattle.std.proofs.Common.{arith}
use Rattle.vrf_store.specs.Store.{header_of}
use Rattle.vrf_store.specs.Check.{bounds_ok, check}
use Rattle.vrf_store.specs.Inner.WellFormed.{WellFormed}
use Rattle.vrf_store.proofs.Laws.Check.Check.{test-facts}
use Rattle.vrf_store.proofs.Laws.Check.Valid.{check-valid, valid-check}

pub good-check : {m : List ℕ} → WellFormed m → check m ≡ true
good-check {m} g = valid-check m (omega (arith, g.enough)) g.enough g.valid

pub check-good : (m : List ℕ) → check m ≡ true → WellFormed m
unfolding check bounds_ok header_of
check-good m h = let k = simp test-facts at h in record { enough = k.0.1.1.0; valid = check-valid m h }
