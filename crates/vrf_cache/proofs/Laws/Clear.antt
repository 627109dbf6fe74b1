-- `clear` on a well-formed memory is the model's step.
use Rattle.std.specs.Prelude.{refl, List, ℕ}
use Rattle.vrf_model.specs.Book.{fresh}
use Rattle.vrf_model.specs.Setting.{schema_step, guid_step, clear_step, clear}
use Rattle.vrf_store.specs.Inner.Stepped.{held, Stepped}
use Rattle.vrf_store.specs.Inner.Counters.{CountersStepped}
use Rattle.vrf_store.proofs.Laws.Counters.{counted-clearing}
use Rattle.vrf_cache.specs.Inner.Taken.{Taken}
use Rattle.vrf_cache.proofs.Laws.Taken.{counted-then}

-- the memory is emptied, then both generations are stepped
pub cleared-taken : {m w y z : List ℕ} → Stepped m w (fresh (held m).allowed) → CountersStepped w y schema_step → CountersStepped y z guid_step → Taken (clear (held m)) tt m z
unfolding clear
cleared-taken {m} s a b = record { content = fresh (held m).allowed; counted = clear_step; step = refl; holds = counted-then s (counted-clearing a b) }
