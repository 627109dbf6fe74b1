-- How the answer of a book call and the memory that it leaves relate to a step of the model. If the step is done, the memory holds its
-- content and its counters go up by what the step counts. If it is refused, the memory is unchanged.
use Rattle.std.specs.Prelude.{◌≡◌, List, ℕ, length, Result, Ok, Err}
use Rattle.vrf_bitio.specs.Reasons.{number}
use Rattle.vrf_bitio.specs.declared.Refusal.{Refusal}
use Rattle.vrf_model.specs.Book.{Content, Increments, stepped}
use Rattle.vrf_model.specs.Setting.{Step, done, refuses}
use Rattle.vrf_store.specs.Store.{counters_of, store_of}
use Rattle.vrf_store.specs.Inner.WellFormed.{WellFormed}
use Rattle.vrf_store.specs.Inner.Stepped.{held}

-- m' is well-formed and as long as m, holds c, has the counters of m stepped by t, and has the literals of m
pub record HoldsContent (m m' : List ℕ) (c : Content) (t : Increments) : Type 0 where
  pub good : WellFormed m'
  pub content : held m' ≡ c
  pub counters : counters_of m' ≡ stepped (counters_of m) t
  pub long : length m' ≡ length m
  pub literals : (store_of m').literals ≡ (store_of m).literals

-- the step s is done and answers a
pub record Taken {A : Type 0} (s : Step A) (a : A) (m m' : List ℕ) : Type 0 where
  pub content : Content
  pub counted : Increments
  pub step : s ≡ done a content counted
  pub holds : HoldsContent m m' content counted

-- the step s is refused with r, and the memory is unchanged
pub record NotTaken {A : Type 0} (s : Step A) (r : Refusal) (m m' : List ℕ) : Type 0 where
  pub step : s ≡ refuses (number r.reason) r.a r.b
  pub same : m' ≡ m

-- the step s, from m to m', with the code's answer
abbrev pub StepBy : {A : Type 0} → Step A → List ℕ → List ℕ → Result A Refusal → Type 0
StepBy s m m' (Ok a) = Taken s a m m'
StepBy s m m' (Err r) = NotTaken s r m m'
