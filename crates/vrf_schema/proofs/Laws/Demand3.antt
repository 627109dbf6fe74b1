-- The proof of demand 3 (`Demand-3`) from the contracts of the exported functions: what a list of calls leaves, and what the late reader
-- reads.
use Rattle.std.specs.Prelude.{◌≡◌, refl, true, List, ℕ, ◌≤◌, length, take, Ok}
use Rattle.std.proofs.Math.Path.{sym, ap}
use Rattle.std.proofs.Common.{subst, ◌∙◌}
use Rattle.std.proofs.Math.Seq.{take-append_seam}
use Rattle.vrf_bitio.proofs.Laws.Pasted.{pasted-front}
use Rattle.vrf_model.specs.Book.{Allowances, Book, fresh, fresh_book}
use Rattle.vrf_model.specs.Writer.{encode_book}
use Rattle.vrf_model.specs.Calls.{Call, Answer, whole, read_checkpoint_tables, look, unchanged, run, run_book, play, answers}
use Rattle.vrf_model.specs.Lawful.{Lawful}
use Rattle.vrf_model.proofs.Laws.Calls.{run-allowed}
use Rattle.vrf_model.proofs.Laws.Writer.{writing, write-accepts}
use Rattle.vrf_model.proofs.Laws.LateJoin.{join_call, late_reader, JoinsLate, joins}
use Rattle.vrf_store.specs.Store.{book_of}
use Rattle.vrf_store.specs.Check.{check}
use Rattle.vrf_schema.specs.CallContract.{CallContract}
use Rattle.vrf_schema.specs.OpenContract.{OpenContract}
use Rattle.vrf_schema.specs.WriteContract.{WriteContract}
use Rattle.vrf_schema.specs.Demand3.{Trace, nothing, next, OffList, LateReader, LateJoin, Demand-3}
use Rattle.vrf_schema.proofs.Laws.Demand1.{accepted-lawful}

-- ---- what a list of calls leaves

pub record TraceLeaves (calls : List Call) (m : List ℕ) (rs : List Answer) (m' : List ℕ) : Type 0 where
  pub accepted : check m' ≡ true
  pub book : book_of m' ≡ play calls (book_of m)
  pub answers : rs ≡ answers calls (book_of m)
  pub allowed : (book_of m').content.allowed ≡ (book_of m).content.allowed

left : {calls : List Call} {m m' : List ℕ} {rs : List Answer} → check m ≡ true → Trace calls m rs m' → TraceLeaves calls m rs m'
unfolding play answers run_book
left good nothing = record { accepted = good; book = refl; answers = refl; allowed = refl }
left {m = m} good (next {k = k} {ks = ks} c p) =
    let one = c.ran good in
    let all = left one.accepted p in
    record {
      accepted = all.accepted;
      book = all.book ∙ ap (play ks) one.book;
      answers = cc (one.answer, all.answers, one.book);
      allowed = all.allowed ∙ ap (λ (b : Book). b.content.allowed) one.book ∙ run-allowed k (book_of m).content;
    }

off_list : {m : List ℕ} → check m ≡ true → OffList m
unfolding run unchanged look
off_list {m} good = record { answered = λ l called. (called.ran good).answer }

-- calls on an opened book leave a lawful book with the allowances that it was opened with
early-lawful : {a : Allowances} {calls : List Call} {m₀ m : List ℕ} {rs : List Answer} → book_of m₀ ≡ fresh_book a → TraceLeaves calls m₀ rs m → Lawful a (book_of m).content
unfolding fresh_book fresh
early-lawful {a} {m = m} opened l = subst (λ (x : Allowances). Lawful x (book_of m).content) (l.allowed ∙ ap (λ (b : Book). b.content.allowed) opened) (accepted-lawful m l.accepted)

pub trace-lawful : {a : Allowances} {lent m₀ m : List ℕ} → OpenContract a lent m₀ (Ok tt) → {calls : List Call} {rs : List Answer} → Trace calls m₀ rs m → Lawful a (book_of m).content
trace-lawful opened trace = early-lawful opened.book (left opened.accepted trace)

-- ---- the late reader

module _ (a : Allowances) (m : List ℕ) (good : check m ≡ true) (law : Lawful a (book_of m).content) (literals : a.guids ≤ a.literals) where
  module _ {before after : List ℕ} {n : ℕ} (w : WriteContract m before after (Ok n)) where
    -- the block is at the front of the buffer
    block : take n after ≡ encode_book (book_of m).content
    block =
        let h = w.wrote good in
        let long = (write-accepts (length before) (book_of m).content (sym h.answer)).long in
        rw (h.bytes, pasted-front before (encode_book (book_of m).content), long) (take-append_seam (encode_book (book_of m).content) _)

    model : JoinsLate a (book_of m)
    model = joins (book_of m) law literals (length before) n (sym (w.wrote good).answer)

    joined : {late₀ late : List ℕ} {r : Answer} → check late₀ ≡ true → book_of late₀ ≡ fresh_book a → CallContract (read_checkpoint_tables (whole (take n after))) late₀ late r → LateReader m late r
    unfolding join_call late_reader fresh_book
    joined {late₀} {late} {r} fine opened called =
        let at : CallContract (join_call (book_of m)) late₀ late r = rw block at called in
        let ran = at.ran fine in
        let current : book_of late ≡ late_reader a (book_of m) = ran.book ∙ ap (run_book (join_call (book_of m))) opened in
        let same : (book_of late).content ≡ (book_of m).content = ap (λ (b : Book). b.content) current ∙ model.lists in
        record {
          answered = ran.answer ∙ ap (λ (b : Book). (run (join_call (book_of m)) b.content).answer) opened ∙ model.answered;
          lists = same;
          counters = ap (λ (b : Book). b.counters) current ∙ model.counters;
          together = λ further p q.
              let one = left good p in
              let two = left ran.accepted q in
              let step = model.together further in
              record {
                answers = one.answers ∙ step.answered ∙ sym (two.answers ∙ ap (answers further) current);
                lists = ap (λ (b : Book). b.content) one.book ∙ step.content ∙ sym (ap (λ (b : Book). b.content) (two.book ∙ ap (play further) current));
                counters = cc (one.book, two.book, current, step.counters);
                early_lookups = off_list one.accepted;
                late_lookups = off_list two.accepted;
              };
        }

-- what holds of every trace from a fresh book
late_join : (a : Allowances) {m₀ m : List ℕ} → check m₀ ≡ true → book_of m₀ ≡ fresh_book a → (calls : List Call) {rs : List Answer} → Trace calls m₀ rs m → LateJoin a calls rs m
late_join a {m = m} good fresh-book calls trace =
    let l = left good trace in
    record {
      book = l.book ∙ ap (play calls) fresh-book;
      answered = l.answers ∙ ap (answers calls) fresh-book;
      writing = λ w. ((w.wrote l.accepted).answer, writing _ _);
      joins = λ literals w opened called. joined a m l.accepted (early-lawful fresh-book l) literals w opened.accepted opened.book called;
      lookups = off_list l.accepted;
    }

pub demand-3 : Demand-3
demand-3 = record { late_join = λ a opened calls trace. late_join a opened.accepted opened.book calls trace }
