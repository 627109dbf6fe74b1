-- What every change of a book leaves: well-formed memory of the same length that holds the content c. Counters and literals are unchanged.
use Rattle.std.specs.Prelude.{◌≡◌, ℕ, ◌<◌, List, length}
use Rattle.vrf_model.specs.Book.{Content}
use Rattle.vrf_table.specs.Table.{key}
use Rattle.vrf_store.specs.Store.{header_of, counters_of, content_of, store_of}
use Rattle.vrf_store.specs.Inner.WellFormed.{WellFormed}

-- the content that memory m holds
abbrev pub held : List ℕ → Content
held m = content_of (store_of m)

-- the field rows keep their keys. This is more than an equal content, which does not show which row holds a slot
abbrev pub KeysKept : List ℕ → List ℕ → Type 0
KeysKept m m' = (e : ℕ) → e < (header_of m).fields → key (store_of m').field_rows e ≡ key (store_of m).field_rows e

pub record Stepped (m m' : List ℕ) (c : Content) : Type 0 where
  pub good : WellFormed m'
  pub content : held m' ≡ c
  pub counters : counters_of m' ≡ counters_of m
  pub long : length m' ≡ length m
  -- the literals of a block that is being read
  pub literals : (store_of m').literals ≡ (store_of m).literals
