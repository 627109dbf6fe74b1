-- The contract of `open`. If it is refused (1 or 3), the memory stays as it was. Otherwise the memory passes the check and holds a fresh
-- book with the given allowances.
use Rattle.std.specs.Prelude.{◌≡◌, true, List, ℕ, length, Result, Ok, Err}
use Rattle.vrf_bitio.specs.Reasons.{number}
use Rattle.vrf_bitio.specs.declared.Refusal.{Refusal}
use Rattle.vrf_model.specs.Book.{Allowances, fresh_book}
use Rattle.vrf_store.specs.Store.{book_of}
use Rattle.vrf_store.specs.Check.{check}
use Rattle.vrf_store.specs.Opening.{opening, opened, not_opened}

pub record OpenedFresh (a : Allowances) (m m' : List ℕ) : Type 0 where
  pub opening : opening a (length m) ≡ opened
  pub accepted : check m' ≡ true
  pub book : book_of m' ≡ fresh_book a
  pub long : length m' ≡ length m

abbrev pub OpenContract : Allowances → List ℕ → List ℕ → Result (Unit {0}) Refusal → Type 0
OpenContract a m m' (Ok u) = OpenedFresh a m m'
OpenContract a m m' (Err r) = (opening a (length m) ≡ not_opened (number r.reason) r.a r.b) × (m' ≡ m)
