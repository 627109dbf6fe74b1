-- A call on a well-formed book leaves a well-formed one, whether it is accepted or refused.
use Rattle.std.specs.Prelude.{List, ℕ, Result, Ok, Err}
use Rattle.vrf_bitio.specs.declared.Refusal.{Refusal}
use Rattle.vrf_model.specs.Setting.{Step}
use Rattle.vrf_store.specs.Inner.WellFormed.{WellFormed}
use Rattle.vrf_cache.specs.Inner.Taken.{StepBy}

pub step-good : {A : Type 0} (s : Step A) {m m' : List ℕ} (r : Result A Refusal) → WellFormed m → StepBy s m m' r → WellFormed m'
step-good s (Ok v) good t = t.holds.good
step-good s (Err e) good t = rw t.same good
