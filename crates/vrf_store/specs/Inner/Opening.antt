-- The contract of opening. A refusal leaves the memory unchanged. Otherwise the memory is well-formed and holds a fresh book.
use Rattle.std.specs.Prelude.{◌≡◌, ℕ, List, length, Result, Ok, Err}
use Rattle.vrf_bitio.specs.Reasons.{number}
use Rattle.vrf_bitio.specs.declared.Refusal.{Refusal}
use Rattle.vrf_model.specs.Book.{Allowances, fresh_book}
use Rattle.vrf_store.specs.Store.{header_of, counters_of, store_of, book_of, Header}
use Rattle.vrf_store.specs.Opening.{opening, opened, not_opened}
use Rattle.vrf_store.specs.Inner.WellFormed.{WellFormed}

pub record FreshMemory (a : Allowances) (m m' : List ℕ) : Type 0 where
  pub accepted : opening a (length m) ≡ opened
  pub good : WellFormed m'
  pub book : book_of m' ≡ fresh_book a
  pub long : length m' ≡ length m

abbrev pub OpenedMemory : Allowances → List ℕ → List ℕ → Result (Unit {0}) Refusal → Type 0
OpenedMemory a m m' (Ok u) = FreshMemory a m m'
OpenedMemory a m m' (Err r) = (opening a (length m) ≡ not_opened (number r.reason) r.a r.b) × (m' ≡ m)

-- m' is m after writes between its header and its literals
pub record BetweenWritten (m m' : List ℕ) : Type 0 where
  pub header : header_of m' ≡ header_of m
  pub counters : counters_of m' ≡ counters_of m
  pub long : length m' ≡ length m
  pub literals : (store_of m').literals ≡ (store_of m).literals

-- the header of a book that holds nothing
abbrev pub empty_header : Allowances → ℕ → Header
empty_header a half = record { allowed = a; guids = 0; groups = 0; fields = 0; held = 0; used = 0; half = half }
