-- The contract of `put_literal`.
use Rattle.std.specs.Prelude.{◌≡◌, ℕ, List, length}
use Rattle.vrf_words.specs.Inner.Words.{set_word}
use Rattle.vrf_store.specs.Store.{counters_of, store_of}
use Rattle.vrf_store.specs.Inner.WellFormed.{WellFormed}
use Rattle.vrf_store.specs.Inner.Stepped.{held}

-- the book is unchanged, and p is now literal i
pub record LiteralPut (m m' : List ℕ) (i p : ℕ) : Type 0 where
  pub good : WellFormed m'
  pub content : held m' ≡ held m
  pub counters : counters_of m' ≡ counters_of m
  pub long : length m' ≡ length m
  pub literals : (store_of m').literals ≡ set_word (store_of m).literals i p
