-- `OpenContract` follows from what `vrf_store`'s `open` promises. The proof of the exported `open` and `Laws.Opens` use this.
use Rattle.std.specs.Prelude.{List, ℕ, Result, Ok, Err}
use Rattle.vrf_bitio.specs.declared.Refusal.{Refusal}
use Rattle.vrf_model.specs.Book.{Allowances}
use Rattle.vrf_store.specs.Inner.Opening.{OpenedMemory}
use Rattle.vrf_store.proofs.Laws.Memory.Check.{good-check}
use Rattle.vrf_schema.specs.OpenContract.{OpenContract}

pub open-contract : (a : Allowances) (m m' : List ℕ) (r : Result (Unit {0}) Refusal) → OpenedMemory a m m' r → OpenContract a m m' r
open-contract a m m' (Ok u) h = record { opening = h.accepted; accepted = good-check h.good; book = h.book; long = h.long }
open-contract a m m' (Err r) h = h
