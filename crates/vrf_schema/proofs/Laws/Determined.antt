-- The contract of an exported function fixes all that its caller sees, so no wrong program satisfies it. Two programs that satisfy the
-- same contract give equal answers, refusals with equal details. They leave equal lists and counters, a memory of the same length, and the
-- same bytes in a lent buffer. Only the layout of the book in its memory is free.
use Rattle.std.specs.Prelude.{◌≡◌, refl, Bool, true, false, List, ℕ, length, Option as Maybe, Result, Ok, Err}
use Rattle.std.specs.Borrow.{Bor}
use Rattle.vrf_bitio.specs.declared.Refusal.{Refusal}
use Rattle.std.proofs.Common.{sym, ap, ◌∙◌}
use Rattle.vrf_bitio.proofs.Laws.Cases.{clash}
use Rattle.vrf_model.specs.Book.{Allowances, Counters}
use Rattle.vrf_model.specs.Calls.{Lookup, Call, Answer}
use Rattle.vrf_model.specs.Answers.{acted_of, added_of, placed_of, found_of, ran_of, tables_of, number_of}
use Rattle.vrf_model.proofs.Laws.Answers.{same-acted, same-added, same-placed, same-found, same-ran, same_read, same_number, same-wrote}
use Rattle.vrf_model.specs.declared.CheckpointTables.{CheckpointTables}
use Rattle.vrf_model.specs.declared.Ran.{Ran}
use Rattle.vrf_bitio.proofs.Laws.Determined.{same-details}
use Rattle.vrf_store.specs.Store.{book_of}
use Rattle.vrf_store.specs.declared.counters.BookCounters.{BookCounters}
use Rattle.vrf_store.specs.Check.{check}
use Rattle.vrf_writer.specs.Writes.{leaves}
use Rattle.vrf_schema.specs.CallContract.{CallContract, LookupContract, text_of}
use Rattle.vrf_schema.specs.OpenContract.{OpenContract}
use Rattle.vrf_schema.specs.WriteContract.{WriteContract}
use Rattle.vrf_schema.specs.CountersContract.{CountersContract}

-- ---- book calls and lookups

-- what the caller sees of two calls on the same memory: their answers, and the memories they leave
pub record SameSeen {A : Type 0} (r q : A) (m m' : List ℕ) : Type 0 where
  pub answer : r ≡ q
  pub book : book_of m ≡ book_of m'
  pub long : length m ≡ length m'

called-alike : {k : Call} {m m' m'' : List ℕ} {r q : Answer} → CallContract k m m' r → CallContract k m m'' q → SameSeen r q m' m''
called-alike {m = m} {m'} {m''} {r} {q} c d = by (check m) refl
  where
    by : (b : Bool) → check m ≡ b → SameSeen r q m' m''
    by true e = let x = c.ran e in let y = d.ran e in record { answer = x.answer ∙ sym y.answer; book = x.book ∙ sym y.book; long = x.long ∙ sym y.long }
    by false e =
        let x = c.corrupt e in
        let y = d.corrupt e in
        let same : m' ≡ m'' = x.kept ∙ sym y.kept in
        record { answer = x.answer ∙ sym y.answer; book = ap book_of same; long = ap length same }

-- the answers of the code are equal too, if `f`, which gives the `Answer` that a code answer represents, is injective
by_answer : {A : Type 0} (f : A → Answer) → ((r q : A) → f r ≡ f q → r ≡ q) → {k : Call} {m m' m'' : List ℕ} (r q : A) → CallContract k m m' (f r) → CallContract k m m'' (f q) → SameSeen r q m' m''
by_answer f same r q c d = let x = called-alike c d in record { answer = same r q x.answer; book = x.book; long = x.long }

module _ {k : Call} {m m' m'' : List ℕ} where
  pub acted-determined : (r q : Result (Unit {0}) Refusal) → CallContract k m m' (acted_of r) → CallContract k m m'' (acted_of q) → SameSeen r q m' m''
  acted-determined = by_answer acted_of same-acted

  pub added-determined : (r q : Result ℕ Refusal) → CallContract k m m' (added_of r) → CallContract k m m'' (added_of q) → SameSeen r q m' m''
  added-determined = by_answer added_of same-added

  pub placed-determined : (r q : Result Bool Refusal) → CallContract k m m' (placed_of r) → CallContract k m m'' (placed_of q) → SameSeen r q m' m''
  placed-determined = by_answer placed_of same-placed

  pub ran-determined : (r q : Result Ran Refusal) → CallContract k m m' (ran_of r) → CallContract k m m'' (ran_of q) → SameSeen r q m' m''
  ran-determined = by_answer ran_of same-ran

  pub read-determined : (r q : Result CheckpointTables Refusal) → CallContract k m m' (tables_of r) → CallContract k m m'' (tables_of q) → SameSeen r q m' m''
  read-determined = by_answer tables_of same_read

  pub found-determined : (r q : Result (Maybe ℕ) Refusal) → CallContract k m m' (found_of r) → CallContract k m m'' (found_of q) → SameSeen r q m' m''
  found-determined = by_answer found_of same-found

  pub number-determined : (r q : Result ℕ Refusal) → CallContract k m m' (number_of r) → CallContract k m m'' (number_of q) → SameSeen r q m' m''
  number-determined = by_answer number_of same_number

-- two answers of a text lookup are equal as the caller sees them: the bytes, or the refusal
abbrev pub SameText : Result (Bor (List ℕ)) Refusal → Result (Bor (List ℕ)) Refusal → Type 0
SameText (Ok t) (Ok u) = t.now ≡ u.now
SameText (Ok t) (Err y) = ⊥
SameText (Err x) (Ok u) = ⊥
SameText (Err x) (Err y) = x ≡ y

same-text : (r q : Result (Bor (List ℕ)) Refusal) → text_of r ≡ text_of q → SameText r q
same-text (Ok t) (Ok u) e = cc
same-text (Ok t) (Err y) e = clash cc
same-text (Err x) (Ok u) e = clash cc
same-text (Err x) (Err y) e = same-details x y (cc) (cc) cc

pub text-determined : {l : Lookup} {m : List ℕ} (r q : Result (Bor (List ℕ)) Refusal) → LookupContract l m (text_of r) → LookupContract l m (text_of q) → SameText r q
text-determined r q c d = same-text r q (called-alike c d).answer

-- ---- the writer, the opening and the counters

pub writes-determined : {m before after after' : List ℕ} (r q : Result ℕ Refusal) → WriteContract m before after r → WriteContract m before after' q → (r ≡ q) × (after ≡ after')
writes-determined {m} {before} {after} {after'} r q w v = by (check m) refl
  where
    by : (b : Bool) → check m ≡ b → (r ≡ q) × (after ≡ after')
    by true e =
        let x = w.wrote e in
        let y = v.wrote e in
        let answer : r ≡ q = same-wrote r q (x.answer ∙ sym y.answer) in
        (answer, x.bytes ∙ ap (leaves (book_of m).content before) answer ∙ sym y.bytes)
    by false e = let x = w.corrupt e in let y = v.corrupt e in (same-wrote r q (x.answer ∙ sym y.answer), x.kept ∙ sym y.kept)

pub open-determined : (a : Allowances) (m m' m'' : List ℕ) (r q : Result (Unit {0}) Refusal) → OpenContract a m m' r → OpenContract a m m'' q → SameSeen r q m' m''
open-determined a m m' m'' (Ok u) (Ok v) b c = record { answer = refl; book = b.book ∙ sym c.book; long = b.long ∙ sym c.long }
open-determined a m m' m'' (Err x) (Err y) b c =
    let same : m' ≡ m'' = b.1 ∙ sym c.1 in
    record { answer = same-acted (Err x) (Err y) (cc (b.0, c.0)); book = ap book_of same; long = ap length same }
open-determined a m m' m'' (Ok u) (Err y) b c = clash (cc (b.opening, c.0))
open-determined a m m' m'' (Err x) (Ok v) b c = clash (cc (b.0, c.opening))

pub counters-determined : {m : List ℕ} (r q : Result BookCounters Refusal) → CountersContract m r → CountersContract m q → r ≡ q
counters-determined {m} r q t u = by (check m) refl r q t u
  where
    by : (b : Bool) → check m ≡ b → (r q : Result BookCounters Refusal) → CountersContract m r → CountersContract m q → r ≡ q
    by false e r q t u = t.corrupt e ∙ sym (u.corrupt e)
    by true e (Ok c) (Ok d) t u = ap (λ (x : Counters). Ok (record { schema = x.schema; guid = x.guid; dropped = x.dropped; replaced = x.replaced; renamed = x.renamed })) (t.counted e ∙ sym (u.counted e))
    by true e (Err x) q t u = absurd (t.counted e)
    by true e (Ok c) (Err y) t u = absurd (u.counted e)
