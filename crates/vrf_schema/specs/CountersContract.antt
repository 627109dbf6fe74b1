-- The contract of `get_counters`: 2 if the book fails the check, otherwise the five counters of document 01 (The book).
use Rattle.std.specs.Prelude.{◌≡◌, true, false, List, ℕ, Result, Ok, Err}
use Rattle.vrf_bitio.specs.declared.Reason.TheVariants.{CorruptBook}
use Rattle.vrf_bitio.specs.declared.Refusal.{Refusal}
use Rattle.vrf_model.specs.Book.{Counters}
use Rattle.vrf_store.specs.Store.{book_of}
use Rattle.vrf_store.specs.Check.{check}
use Rattle.vrf_store.specs.declared.counters.BookCounters.{BookCounters}

abbrev pub counters_from : BookCounters → Counters
counters_from c = record { schema = c.schema; guid = c.guid; dropped = c.dropped; replaced = c.replaced; renamed = c.renamed }

-- the answer is no refusal, and its counters are t
abbrev pub CountersAre : Counters → Result BookCounters Refusal → Type 0
CountersAre t (Ok c) = counters_from c ≡ t
CountersAre t (Err r) = ⊥

pub record CountersContract (m : List ℕ) (r : Result BookCounters Refusal) : Type 0 where
  pub corrupt : check m ≡ false → r ≡ Err (record { reason = CorruptBook; a = 0; b = 0 })
  pub counted : check m ≡ true → CountersAre (book_of m).counters r
