-- The contract of stepping a counter: only that counter changes.
use Rattle.std.specs.Prelude.{◌≡◌, ℕ, List, length}
use Rattle.vrf_model.specs.Book.{Increments, stepped}
use Rattle.vrf_model.specs.Setting.{schema_step, guid_step, dropped_step, renamed_step}
use Rattle.vrf_store.specs.declared.counters.Counter.{Counter}
use Rattle.vrf_store.specs.declared.counters.Counter.TheVariants.{Schema, Guid, Dropped, Replaced, Renamed}
use Rattle.vrf_store.specs.Store.{counters_of, store_of}

pub record CountersStepped (m m' : List ℕ) (t : Increments) : Type 0 where
  pub store : store_of m' ≡ store_of m
  pub counters : counters_of m' ≡ stepped (counters_of m) t
  pub long : length m' ≡ length m

-- one group replaced, without the schema step that the model counts together with it
unfoldable pub replaced_alone : Increments
replaced_alone = record { schema = 0; guid = 0; dropped = 0; replaced = 1; renamed = 0 }

-- what a step of a counter adds
abbrev pub step_of : Counter → Increments
step_of Schema = schema_step
step_of Guid = guid_step
step_of Dropped = dropped_step
step_of Replaced = replaced_alone
step_of Renamed = renamed_step 1

-- the first of the two words of a counter in the header
abbrev pub word_of : Counter → ℕ
word_of Schema = 11
word_of Guid = 13
word_of Dropped = 15
word_of Replaced = 17
word_of Renamed = 19
