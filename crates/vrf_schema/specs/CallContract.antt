-- The contract of every exported book call and lookup, on a memory m that the call leaves as m'. If m fails the check, the call is refused
-- with 2 and m stays as it was. If m passes, then m' passes too and holds the book that document 01 makes of the book in m, and the answer
-- is document 01's. A function that borrows the book only to read it has m' = m.
use Rattle.std.specs.Prelude.{◌≡◌, true, false, List, ℕ, length, Result, Ok, Err}
use Rattle.std.specs.Borrow.{Bor}
use Rattle.vrf_bitio.specs.declared.Refusal.{Refusal}
use Rattle.vrf_model.specs.Calls.{Lookup, Call, lookup, Answer, refusal-of, text, run, run_book}
use Rattle.vrf_model.specs.Answers.{refusal_of}
use Rattle.vrf_store.specs.Store.{book_of}
use Rattle.vrf_store.specs.Check.{check}

pub record Corrupt (m m' : List ℕ) (r : Answer) : Type 0 where
  pub answer : r ≡ refusal-of 2 0 0
  pub kept : m' ≡ m

pub record Performed (c : Call) (m m' : List ℕ) (r : Answer) : Type 0 where
  pub accepted : check m' ≡ true
  pub book : book_of m' ≡ run_book c (book_of m)
  pub answer : r ≡ (run c (book_of m).content).answer
  pub long : length m' ≡ length m

pub record CallContract (c : Call) (m m' : List ℕ) (r : Answer) : Type 0 where
  pub corrupt : check m ≡ false → Corrupt m m' r
  pub ran : check m ≡ true → Performed c m m' r

-- a lookup leaves the memory as it was
abbrev pub LookupContract : Lookup → List ℕ → Answer → Type 0
LookupContract l m r = CallContract (lookup l) m m r

-- a lookup of a text answers the part of the book that holds the text
abbrev pub text_of : Result (Bor (List ℕ)) Refusal → Answer
text_of (Ok t) = text t.now
text_of (Err r) = refusal_of r
