-- Well-formed memory: long enough for its allowances, and valid. It is exactly the memory that the check accepts.
use Rattle.std.specs.Prelude.{ℕ, ◌≤◌, List, length}
use Rattle.vrf_store.specs.Layout
use Rattle.vrf_store.specs.Store.{allowances_of, store_of}
use Rattle.vrf_store.specs.Inner.Valid.{Valid}

-- the memory has the bytes that its allowances need
abbrev pub Enough : List ℕ → Type 0
Enough m = Layout.need (allowances_of m) ≤ length m

pub record WellFormed (m : List ℕ) : Type 0 where
  pub enough : Enough m
  pub valid : Valid (store_of m)
