-- The checks of book and window and the contract of the unchecked reader together give `CallContract`. The proofs of the functions of
-- `src/reading.rt` use these laws.
use Rattle.std.specs.Prelude.{◌≡◌, Bool, List, ℕ, Result, Ok, Err}
use Rattle.std.specs.Borrow.{Bor}
use Rattle.std.proofs.Math.Path.{refl, ap}
use Rattle.std.proofs.Common.{sym, subst, ◌∙◌, arith}
use Rattle.std.proofs.Math.Bool.{true, false}
use Rattle.vrf_bitio.specs.Reading.{Read, ok, refused}
use Rattle.vrf_bitio.specs.Reasons.{number}
use Rattle.vrf_bitio.specs.Window.{window}
use Rattle.vrf_bitio.specs.Answers.{rest_of, Opens}
use Rattle.vrf_bitio.specs.declared.BitReader.{BitReader}
use Rattle.vrf_bitio.specs.declared.Refusal.{Refusal}
use Rattle.vrf_text.specs.Text.{accepted, refusal}
use Rattle.vrf_model.specs.Book.{no_increment}
use Rattle.vrf_model.specs.Parser.{Parser, return, fail}
use Rattle.vrf_model.specs.Block.{by_table, block}
use Rattle.vrf_model.specs.Calls.{Call, Answer, ran, block_counts, of_parsed, read_opened, run}
use Rattle.vrf_model.specs.Answers.{refusal_of, ran_of, counts_of, tables_of}
use Rattle.vrf_model.specs.declared.CheckpointTables.{CheckpointTables}
use Rattle.vrf_model.specs.declared.Ran.{Ran}
use Rattle.vrf_store.specs.Store.{counters_of}
use Rattle.vrf_store.specs.Check.{check}
use Rattle.vrf_store.specs.Inner.WellFormed.{WellFormed}
use Rattle.vrf_store.specs.Inner.Stepped.{held}
use Rattle.vrf_store.proofs.Laws.Memory.Check.{check-good}
use Rattle.vrf_cache.proofs.Laws.Taken.{unmoved}
use Rattle.vrf_reader.specs.Inner.Simulates.{Refines}
use Rattle.vrf_reader.specs.Inner.Within.{ReaderWithin}
use Rattle.vrf_reader.proofs.Laws.Within.{opened-within}
use Rattle.vrf_checkpoint.specs.Inner.Block.{BlockReads}
use Rattle.vrf_schema.specs.CallContract.{CallContract}
use Rattle.vrf_schema.specs.Checked.{text_after_check, CheckedText}
use Rattle.vrf_schema.specs.Inner.Reading.{window_after_check, CheckedWindow}
use Rattle.vrf_schema.proofs.Laws.Checked.{Lent, left, kept, no-refusal, corrupt-book, admitted}

-- the call's answer, from how the reader ended, where it is then at d
abbrev pub answer_by : {A : Type 0} → (A → ℕ → Answer) → BitReader → Result A Refusal → Answer
answer_by f d (Ok v) = f v d.pos
answer_by f d (Err e) = refusal_of e

-- ---- the checks of book and window

no-window : {X : Type 0} {w : ℕ × ℕ} {n a b p : ℕ} {l : List ℕ} → ◌≡◌ {A = Read (ℕ × ℕ)} (refused n a b) (ok w p l) → X
no-window e = let z : ◌≡◌ {A = ℕ} 0 1 = cc in absurd (omega arith)

module _ {m : List ℕ} {s : Bor (List ℕ)} {first count : ℕ} (w : BitReader) (a : CheckedWindow m s first count (Ok w)) where
  pub passed : check m ≡ true
  passed = by (check m) refl a.answer.1
    where
      by : (b : Bool) → check m ≡ b → window_after_check b (window s.now first count) ≡ ok (w.first, w.count) w.pos (rest_of w) → check m ≡ true
      by true e n = e
      by false e n = no-window n

  pub opened : window s.now first count ≡ ok (w.first, w.count) w.pos (rest_of w)
  opened = subst (λ (b : Bool). window_after_check b (window s.now first count) ≡ ok (w.first, w.count) w.pos (rest_of w)) passed a.answer.1

  pub window-good : WellFormed m
  window-good = check-good m passed

  pub window-within : ReaderWithin w
  window-within = opened-within first count w (subst (λ (b : Bor (List ℕ)). window b.now first count ≡ ok (w.first, w.count) w.pos (rest_of w)) (sym a.answer.0) opened)

-- the check of the book comes before those of the window
module _ {m : List ℕ} {s : Bor (List ℕ)} {first count : ℕ} where
  pub book-corrupt : (q : Refusal) → CheckedText m accepted (Err q) → CheckedWindow m s first count (Err q)
  book-corrupt q a = record { answer = by (check m) a.answer }
    where
      by : (b : Bool) → text_after_check b accepted ≡ refusal (number q.reason) q.a q.b → window_after_check b (window s.now first count) ≡ refused (number q.reason) q.a q.b
      by false n = cc
      by true n = no-refusal n

  pub book-passed : CheckedText m accepted (Ok tt) → (r : Result BitReader Refusal) → Opens s (window s.now first count) r → CheckedWindow m s first count r
  book-passed a r h = record { answer = subst (λ (b : Bool). Opens s (window_after_check b (window s.now first count)) r) (sym (admitted a).checked) h }

-- ---- the answer

module _ {A : Type 0} (f : A → ℕ → Answer) (r : Parser A) (k : Call) {m : List ℕ} {s : Bor (List ℕ)} {first count : ℕ} (e : run k (held m) ≡ read_opened f r (held m) (window s.now first count)) (lent : Lent m) where
  pub window-refused : (q : Refusal) → CheckedWindow m s first count (Err q) → CallContract k m m (refusal_of q)
  unfolding read_opened
  window-refused q a = by (check m) refl a.answer
    where
      by : (b : Bool) → check m ≡ b → window_after_check b (window s.now first count) ≡ refused (number q.reason) q.a q.b → CallContract k m m (refusal_of q)
      by true h n = kept (refusal_of q) lent h (e ∙ ap (read_opened f r (held m)) n)
      by false h n = corrupt-book h cc

  module _ {m' : List ℕ} (w d : BitReader) (a : CheckedWindow m s first count (Ok w)) where
    pub window-read : (o : Result A Refusal) → Refines r w d m m' o → CallContract k m m' (answer_by f d o)
    unfolding read_opened of_parsed return fail
    window-read (Ok v) g = left _ (passed w a) (e ∙ ap (read_opened f r (held m)) (opened w a) ∙ ap (of_parsed f) (g.simulates no_increment)) g.good refl (g.counters (counters_of m) no_increment (unmoved (window-good w a) (λ i. (lent i).fits)).counters) g.long refl
    window-read (Err q) g = left _ (passed w a) (e ∙ ap (read_opened f r (held m)) (opened w a) ∙ ap (of_parsed f) (g.simulates no_increment)) g.good refl (g.counters (counters_of m) no_increment (unmoved (window-good w a) (λ i. (lent i).fits)).counters) g.long refl

-- a call that reads a run or an object: its count or GUID, with the position after it
abbrev pub ran_by : BitReader → Result ℕ Refusal → Result Ran Refusal
ran_by d (Ok n) = Ok (record { count = n; pos = d.pos })
ran_by d (Err q) = Err q

ran-answer : (d : BitReader) (o : Result ℕ Refusal) → ran_of (ran_by d o) ≡ answer_by ran d o
ran-answer d (Ok n) = refl
ran-answer d (Err q) = refl

pub run-read : (r : Parser ℕ) (k : Call) {m m' : List ℕ} {s : Bor (List ℕ)} {first count : ℕ} → run k (held m) ≡ read_opened ran r (held m) (window s.now first count) → Lent m
    → (w d : BitReader) → CheckedWindow m s first count (Ok w) → (o : Result ℕ Refusal) → Refines r w d m m' o → CallContract k m m' (ran_of (ran_by d o))
run-read r k e lent w d a o h = rw (ran-answer d o) (window-read ran r k e lent w d a o h)

-- a call that reads a block
pub block_read : (k : Call) {m m' : List ℕ} {s : Bor (List ℕ)} {first count : ℕ} → run k (held m) ≡ read_opened (λ n p. block_counts n) (block by_table) (held m) (window s.now first count) → Lent m
    → (w d : BitReader) → CheckedWindow m s first count (Ok w) → (r : Result CheckpointTables Refusal) → BlockReads (block by_table) w d m m' r → CallContract k m m' (tables_of r)
block_read k e lent w d a (Ok t) h = window-read (λ n p. block_counts n) (block by_table) k e lent w d a (Ok (counts_of t)) h
block_read k e lent w d a (Err q) h = window-read (λ n p. block_counts n) (block by_table) k e lent w d a (Err q) h
