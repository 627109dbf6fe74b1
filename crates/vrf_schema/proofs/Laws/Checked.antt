-- The checks before a call and the contract of the unchecked call together give `CallContract`. The proofs of the functions of
-- `src/calls.rt` and `src/lookups.rt` use these laws.
use Rattle.std.specs.Prelude.{◌≡◌, Bool, true, false, ℕ, ◌<◌, ◌≤◌, length, get_or, Option as Maybe, Some, None, Result as Outcome, Ok, Err}
use Rattle.std.proofs.Math.Path.{refl, ap, subst}
use Rattle.std.proofs.Common.{sym, ◌∙◌, true≢false, arith, lt-ltb, le-ltb, Fits}
use mathlib.Core.List.{List}
use Rattle.std.specs.Int.{w8}
use Rattle.vrf_bitio.specs.Reasons.{number}
use Rattle.vrf_bitio.specs.declared.Reason.TheVariants.{TooManySlots}
use Rattle.vrf_bitio.specs.declared.Refusal.{Refusal}
use Rattle.vrf_text.specs.Text.{IsText, CallerText, accepted, refusal, caller_text}
use Rattle.vrf_text.specs.Answers.{CallerAnswer}
use Rattle.vrf_text.proofs.Laws.Text.{caller_text-text}
use Rattle.vrf_model.specs.Book.{stepped}
use Rattle.vrf_model.specs.Setting.{Step, done, refuses, add_group}
use Rattle.vrf_model.specs.Calls.{Lookup, Call, add_export_group, Answer, refusal-of, acted, field_placed, at_place, found, text, Result, if_text_accepted, look, unchanged, of_step, add_directly, run, run_book}
use Rattle.vrf_model.specs.Answers.{refusal_of, acted_of, added_of, placed_of, found_of}
use Rattle.vrf_table.specs.Inner.Answers.{entry}
use Rattle.vrf_store.specs.Store.{counters_of, book_of}
use Rattle.vrf_store.specs.Check.{check}
use Rattle.vrf_store.specs.Inner.WellFormed.{WellFormed}
use Rattle.vrf_store.specs.Inner.Stepped.{held}
use Rattle.vrf_store.proofs.Laws.Memory.Check.{good-check, check-good}
use Rattle.vrf_cache.specs.Inner.Taken.{HoldsContent, Taken, NotTaken, StepBy}
use Rattle.vrf_cache.proofs.Laws.Taken.{unmoved}
use Rattle.vrf_schema.specs.CallContract.{CallContract, LookupContract}
use Rattle.vrf_schema.specs.Checked.{text_after_check, CheckedText}

-- what a place where a `&[u8]` is lent says of its list: each element is a byte
abbrev pub Lent : List ℕ → Type 0
Lent m = (i : ℕ) → Fits w8 (get_or m i 0)

-- ---- what a call leaves

-- if the check passed and the memory afterwards holds what the definition of the call makes of the book, the contract is satisfied
pub left : {k : Call} {m m' : List ℕ} (x : Result) {r : Answer} → check m ≡ true → run k (held m) ≡ x → WellFormed m' → held m' ≡ x.content → counters_of m' ≡ stepped (counters_of m) x.counted → length m' ≡ length m → r ≡ x.answer → CallContract k m m' r
unfolding book_of run_book
left x checked e good content counters long a = record {
  corrupt = λ s. absurd (true≢false (sym checked ∙ s));
  ran = λ _. record { accepted = good-check good; book = cc (e, content, counters); answer = a ∙ ap (λ (z : Result). z.answer) (sym e); long = long };
}

pub called : {k : Call} {m m' : List ℕ} (x : Result) {r : Answer} → check m ≡ true → run k (held m) ≡ x → HoldsContent m m' x.content x.counted → r ≡ x.answer → CallContract k m m' r
called x checked e h a = left x checked e h.good h.content h.counters h.long a

-- if the check passed, a call that changes nothing satisfies the contract by its answer
pub kept : {k : Call} {m : List ℕ} (r : Answer) → Lent m → check m ≡ true → run k (held m) ≡ unchanged (held m) r → CallContract k m m r
unfolding unchanged
kept {m = m} r lent checked e = called (unchanged (held m) r) checked e (unmoved (check-good m checked) (λ i. (lent i).fits)) refl

-- ---- the checks before a call. Each law takes what the checks promise of a refusal, `Err r`, or of a call that they let pass, `Ok tt`.

pub no-refusal : {A : Type 0} {n a b : ℕ} → accepted ≡ refusal n a b → A
no-refusal e = let z : ◌≡◌ {A = ℕ} 0 1 = cc in absurd (omega arith)

-- the check of the book comes before that of the text
pub book-refused : {m : List ℕ} {x : CallerText} (r : Refusal) → CheckedText m accepted (Err r) → CheckedText m x (Err r)
book-refused {m} {x} r a = record { answer = by (check m) a.answer }
  where
    by : (b : Bool) → text_after_check b accepted ≡ refusal (number r.reason) r.a r.b → text_after_check b x ≡ refusal (number r.reason) r.a r.b
    by false n = n
    by true n = no-refusal n

pub book-accepted : {m : List ℕ} {x : CallerText} (r : Outcome (Unit {0}) Refusal) → CheckedText m accepted (Ok tt) → CallerAnswer x r → CheckedText m x r
book-accepted {m} {x} r a t = record { answer = by (check m) a.answer }
  where
    by : (b : Bool) → text_after_check b accepted ≡ accepted → CallerAnswer (text_after_check b x) r
    by true n = t
    by false n = no-refusal (sym n)

-- a call on a book that fails the check satisfies its contract if it answers 2 and leaves the memory
pub corrupt-book : {k : Call} {m : List ℕ} {r : Answer} → check m ≡ false → r ≡ refusal-of 2 0 0 → CallContract k m m r
corrupt-book s a = record { corrupt = λ _. record { answer = a; kept = refl }; ran = λ t. absurd (true≢false (sym t ∙ s)) }

-- a lookup of a text, on a book that fails the check and on one that passes
pub text-refused : {l : Lookup} {m : List ℕ} (r : Refusal) → check m ≡ false → refusal_of r ≡ refusal-of 2 0 0 → LookupContract l m (refusal_of r)
text-refused r s e = corrupt-book s e

pub text-found : {l : Lookup} {m t : List ℕ} → Lent m → check m ≡ true → look l (held m) ≡ text t → LookupContract l m (text t)
unfolding run
text-found {m = m} {t} lent checked e = kept (text t) lent checked (ap (unchanged (held m)) e)

-- a call that the checks refuse satisfies its contract, if it does where the text is refused
refused-by : {k : Call} {m : List ℕ} {x : CallerText} (r : Refusal) → CheckedText m x (Err r)
    → (check m ≡ true → x ≡ refusal (number r.reason) r.a r.b → CallContract k m m (refusal_of r)) → CallContract k m m (refusal_of r)
refused-by {k} {m} {x} r a e = by (check m) refl a.answer
  where
    by : (b : Bool) → check m ≡ b → text_after_check b x ≡ refusal (number r.reason) r.a r.b → CallContract k m m (refusal_of r)
    by false s n = corrupt-book s cc
    by true s n = e s n

-- a call without a text
pub call-refused : {k : Call} {m : List ℕ} (r : Refusal) → CheckedText m accepted (Err r) → CallContract k m m (refusal_of r)
call-refused r a = refused-by r a (λ s n. no-refusal n)

-- a lookup with a text
pub look-refused : {l : Lookup} {m : List ℕ} {x : CallerText} (r : Refusal) (v : Answer) → Lent m → CheckedText m x (Err r) → look l (held m) ≡ if_text_accepted refusal-of x v → LookupContract l m (refusal_of r)
unfolding run if_text_accepted
look-refused {m = m} r v lent a e = refused-by r a (λ s n. kept (refusal_of r) lent s (ap (unchanged (held m)) (e ∙ ap (λ (y : CallerText). if_text_accepted refusal-of y v) n)))

-- a step with a text
pub step-refused : {k : Call} {m : List ℕ} {x : CallerText} (r : Refusal) {A : Type 0} (f : A → Answer) (s : Step A) → Lent m → CheckedText m x (Err r)
    → run k (held m) ≡ of_step f (held m) (if_text_accepted refuses x s) → CallContract k m m (refusal_of r)
unfolding of_step if_text_accepted
step-refused {m = m} r f s lent a e = refused-by r a (λ c n. kept (refusal_of r) lent c (e ∙ ap (λ (y : CallerText). of_step f (held m) (if_text_accepted refuses y s)) n))

-- a call that passed the checks: the book passes its check, and the text is accepted
pub record PassedChecks (m : List ℕ) (x : CallerText) : Type 0 where
  pub checked : check m ≡ true
  pub text : x ≡ accepted

pub admitted : {m : List ℕ} {x : CallerText} → CheckedText m x (Ok tt) → PassedChecks m x
admitted {m} {x} a = by (check m) refl a.answer
  where
    by : (b : Bool) → check m ≡ b → text_after_check b x ≡ accepted → PassedChecks m x
    by false s n = no-refusal (sym n)
    by true s n = record { checked = s; text = n }

pub admitted-good : {m : List ℕ} {x : CallerText} → CheckedText m x (Ok tt) → WellFormed m
admitted-good {m} a = check-good m (admitted a).checked

pub admitted-text : {m : List ℕ} (t : List ℕ) → CheckedText m (caller_text t) (Ok tt) → IsText t
admitted-text t a = caller_text-text t (admitted a).text

-- ---- the answer of a call that passed the checks

-- what a search finds, as the answer of a lookup
pub found-entry : (o : Maybe ℕ) → found_of (Ok o) ≡ found (entry o)
found-entry (Some i) = refl
found-entry None = refl

-- a lookup
pub looked : {l : Lookup} {m : List ℕ} {x : CallerText} {r : Answer} → Lent m → CheckedText m x (Ok tt) → look l (held m) ≡ if_text_accepted refusal-of x r → LookupContract l m r
unfolding run if_text_accepted
looked {m = m} {r = r} lent a e =
    kept r lent (admitted a).checked (ap (unchanged (held m)) (e ∙ ap (λ (y : CallerText). if_text_accepted refusal-of y r) (admitted a).text))

module _ {m : List ℕ} {x : CallerText} (lent : Lent m) (a : CheckedText m x (Ok tt)) where
  -- a step that was done, and a step that was refused
  module _ (k : Call) {A : Type 0} (f : A → Answer) (s : Step A) (e : run k (held m) ≡ of_step f (held m) (if_text_accepted refuses x s)) where
    within : run k (held m) ≡ of_step f (held m) s
    unfolding if_text_accepted
    within = e ∙ ap (λ (y : CallerText). of_step f (held m) (if_text_accepted refuses y s)) (admitted a).text

    pub taken : {m' : List ℕ} {v : A} → Taken s v m m' → CallContract k m m' (f v)
    unfolding of_step
    taken {v = v} t = called (of_step f (held m) (done v t.content t.counted)) (admitted a).checked (within ∙ ap (of_step f (held m)) t.step) t.holds refl

    pub not_taken : {m' : List ℕ} {r : Refusal} → NotTaken s r m m' → CallContract k m m' (refusal_of r)
    unfolding of_step
    not_taken {r = r} t = subst (λ (y : List ℕ). CallContract k m y (refusal_of r)) (sym t.same) (kept (refusal_of r) lent (admitted a).checked (within ∙ ap (of_step f (held m)) t.step))

    -- a step, by the answer of the code, where `answer` says what the answer means
    pub step-by : (answer : Outcome A Refusal → Answer) → ((v : A) → answer (Ok v) ≡ f v) → ((q : Refusal) → answer (Err q) ≡ refusal_of q)
        → {m' : List ℕ} (r : Outcome A Refusal) → StepBy s m m' r → CallContract k m m' (answer r)
    step-by answer at-ok at-err (Ok v) t = rw (at-ok v) (taken t)
    step-by answer at-ok at-err (Err q) t = rw (at-err q) (not_taken t)

  -- the same for the three answers of the calls
  module _ (k : Call) {m' : List ℕ} where
    pub acted-by : (s : Step (Unit {0})) → run k (held m) ≡ of_step (λ u. acted) (held m) (if_text_accepted refuses x s)
        → (r : Outcome (Unit {0}) Refusal) → StepBy s m m' r → CallContract k m m' (acted_of r)
    acted-by s e = step-by k (λ u. acted) s e acted_of (λ v. refl) (λ q. refl)

    pub added-by : (s : Step ℕ) → run k (held m) ≡ of_step at_place (held m) (if_text_accepted refuses x s)
        → (r : Outcome ℕ Refusal) → StepBy s m m' r → CallContract k m m' (added_of r)
    added-by s e = step-by k at_place s e added_of (λ v. refl) (λ q. refl)

    pub placed_by : (s : Step Bool) → run k (held m) ≡ of_step field_placed (held m) (if_text_accepted refuses x s)
        → (r : Outcome Bool Refusal) → StepBy s m m' r → CallContract k m m' (placed_of r)
    placed_by s e = step-by k field_placed s e placed_of (λ v. refl) (λ q. refl)

-- `add_export_group` called directly: 22 is checked before the step
module _ {path : List ℕ} {index slots : ℕ} {m : List ℕ} (lent : Lent m) (a : CheckedText m (caller_text path) (Ok tt)) where
  pub too_many : 65536 < slots → CallContract (add_export_group path index slots) m m (refusal-of 22 slots 0)
  unfolding run add_directly
  too_many h = not_taken lent a (add_export_group path index slots) at_place (refuses 22 slots 0) (rw (lt-ltb 65536 slots h)) {r = record { reason = TooManySlots; a = slots; b = 0 }} (record { step = refl; same = refl })

  pub added-directly : {m' : List ℕ} → slots ≤ 65536 → (r : Outcome ℕ Refusal) → StepBy (add_group path index slots (held m)) m m' r → CallContract (add_export_group path index slots) m m' (added_of r)
  unfolding run add_directly
  added-directly h r t = added-by lent a (add_export_group path index slots) (add_group path index slots (held m)) (rw (le-ltb 65536 slots h)) r t
