-- The relation between a reader in the code and a `Parser` of `vrf_model`. The code has a bit reader and the memory that holds the book. The
-- definition has a position, the bytes left there, the content and what was counted.
use Rattle.std.specs.Prelude.{◌≡◌, List, ℕ, Result, Ok, Err, length}
use Rattle.vrf_bitio.specs.Answers.{rest_of}
use Rattle.vrf_bitio.specs.Reasons.{number}
use Rattle.vrf_bitio.specs.declared.BitReader.{BitReader}
use Rattle.vrf_bitio.specs.declared.Refusal.{Refusal}
use Rattle.vrf_model.specs.Book.{Counters, Increments, stepped}
use Rattle.vrf_model.specs.Parser.{Parsed, Parser, return, fail}
use Rattle.vrf_store.specs.Store.{counters_of}
use Rattle.vrf_store.specs.Inner.WellFormed.{WellFormed}
use Rattle.vrf_store.specs.Inner.Stepped.{held}

-- the definition k, run from the code's reader r and memory m
abbrev pub parser_at : {A : Type 0} → BitReader → List ℕ → Parser A → Increments → Parsed A
parser_at r m k t = k r.pos (rest_of r) (held m) t

-- k from reader r and memory m gives what k' gives from reader d and memory m'. `adds` adds what the code counted between them
pub record Simulates {A : Type 0} (k : Parser A) (r : BitReader) (m : List ℕ) (k' : Parser A) (d : BitReader) (m' : List ℕ) : Type 0 where
  pub adds : Increments → Increments
  pub simulates : (t : Increments) → parser_at r m k t ≡ parser_at d m' k' (adds t)
  pub counters : (b : Counters) (t : Increments) → counters_of m ≡ stepped b t → counters_of m' ≡ stepped b (adds t)
  pub good : WellFormed m'
  pub long : length m' ≡ length m
  pub same : d.«data» ≡ r.«data»
  pub first : d.first ≡ r.first
  pub count : d.count ≡ r.count

-- the code, from reader r and memory m, ends as k does, and leaves the reader d and the memory m'. After a refusal d may be any: private
-- functions promise no more, and each public one has a clause `stays`, which says that d is r
abbrev pub Refines : {A : Type 0} → Parser A → BitReader → BitReader → List ℕ → List ℕ → Result A Refusal → Type 0
Refines k r d m m' (Ok v) = Simulates k r m (return v) d m'
Refines k r d m m' (Err e) = Simulates k r m (fail (number e.reason) e.a e.b) r m'

-- k ends so from every well-formed memory, and leaves it unchanged
pub record RefinesReading {A : Type 0} (k : Parser A) (r d : BitReader) (o : Result A Refusal) : Type 0 where
  pub reads : (m : List ℕ) → WellFormed m → Refines k r d m m o
