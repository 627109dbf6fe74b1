-- What the proof of demand 3 needs. A fresh book reads a lawful book's block, and then answers as the first book does. A block that the
-- writer refuses with 44 is refused by the reader. Used in `vrf_schema` (Laws/Demand3.antt).
use Rattle.std.specs.Prelude.{◌≡◌, ℕ, ◌^◌, ◌≤◌, ◌<◌}
use Rattle.std.proofs.Common.{sym, ap, ◌∙◌, arith}
use mathlib.Core.List.{List, [], append-nil}
use Rattle.std.proofs.Math.Nat.{zero-add, mod-eq_of_lt}
use Rattle.std.proofs.Math.ListN.{length}
use Rattle.vrf_bitio.proofs.Laws.Window.{window-whole}
use Rattle.vrf_model.specs.Book.{Allowances, Content, Book, no_increment, zero_counters, stepped, fresh, fresh_book}
use Rattle.vrf_model.specs.Lookup.{index_at}
use Rattle.vrf_model.specs.Writer.{encode_book, write, written}
use Rattle.vrf_model.specs.Calls.{Call, read_checkpoint_tables, whole, refusal-of, block_counts, Result, of_parsed, read_opened, read_window, run, run_book}
use Rattle.vrf_model.specs.Clash.{FirstClash, NoClash}
use Rattle.vrf_model.specs.Lawful.{Lawful}
use Rattle.vrf_model.specs.LateJoin.{counts_of_block, counters_of_block}
use Rattle.vrf_model.proofs.Laws.ReadBack.Block.{increments_of_block, all-within, read_back}
use Rattle.vrf_model.proofs.Laws.ReadBack.Clash.{stops-34}
use Rattle.vrf_model.proofs.Laws.ReadBack.Bytes.{block-bytes}
use Rattle.vrf_model.proofs.Laws.Writer.{write-accepts}
use Rattle.vrf_model.proofs.Laws.Lockstep.{Lockstep, stepped-fit, lockstep}

-- ---- a late reader

-- the late reader reads the early reader's block
unfoldable pub join_call : Book → Call
join_call early = read_checkpoint_tables (whole (encode_book early.content))

-- the late reader's book: freshly opened with the allowances a, then given the block
unfoldable pub late_reader : Allowances → Book → Book
late_reader a early = run_book (join_call early) (fresh_book a)

-- the late reader is not refused: it counts what the early reader holds, holds the same lists, and answers every further list of calls as
-- the early reader does
pub record JoinsLate (a : Allowances) (early : Book) : Type 0 where
  pub answered : (run (join_call early) (fresh a)).answer ≡ block_counts (counts_of_block early.content)
  pub lists : (late_reader a early).content ≡ early.content
  pub counters : (late_reader a early).counters ≡ counters_of_block early.content
  pub together : (further : List Call) → Lockstep further early (late_reader a early)

-- ---- what the late reader reads

module _ {a : Allowances} (c : Content) (law : Lawful a c) (size : length (encode_book c) ≤ 268435456) (literals : a.guids ≤ a.literals) where
  late-reads : NoClash c.groups → run (read_checkpoint_tables (whole (encode_book c))) (fresh a) ≡ record { answer = block_counts (counts_of_block c); content = c; counted = increments_of_block c }
  unfolding run read_window read_opened of_parsed whole
  late-reads clear = rw (window-whole (encode_book c) (block-bytes c law) size, ← append-nil (encode_book c), read_back c law clear size literals [])

  -- no counter of the late reader has wrapped
  late-counters : stepped zero_counters (increments_of_block c) ≡ counters_of_block c
  unfolding stepped zero_counters increments_of_block counters_of_block
  late-counters =
      let guids : length c.guids < 2 ^ 64 = omega (arith, law.tops.guids, (all-within c law).guids) in
      let groups : length c.groups < 2 ^ 64 = omega (arith, law.tops.groups, (all-within c law).groups) in
      rw (zero-add, zero-add, mod-eq_of_lt groups, mod-eq_of_lt guids)

  -- a block that the writer refuses with 44 would be refused with 34, at the group that 44 names
  pub late-refused : {place : ℕ} → FirstClash c.groups place → (run (read_checkpoint_tables (whole (encode_book c))) (fresh a)).answer ≡ refusal-of 34 (index_at c.groups place) 0
  unfolding run read_window read_opened of_parsed whole
  late-refused clash =
      let r = (stops-34 c law clash size literals).stops 0 [] no_increment in
      rw (window-whole (encode_book c) (block-bytes c law) size, ← append-nil (encode_book c), r.1.1)

-- The allowance for literals is no less than the one for GUIDs, because the writer sends every path as a literal.
pub joins : {a : Allowances} (early : Book) → Lawful a early.content → a.guids ≤ a.literals → (capacity n : ℕ) → write capacity early.content ≡ written n → JoinsLate a early
unfolding join_call late_reader run_book fresh_book
joins {a} early law literals capacity n e =
    let w = write-accepts capacity early.content e in
    let r = late-reads early.content law w.size literals w.clear in
    let lists : (late_reader a early).content ≡ early.content = ap (λ (x : Result). x.content) r in
    record {
      answered = ap (λ (x : Result). x.answer) r;
      lists = lists;
      counters = ap (λ (x : Result). stepped zero_counters x.counted) r ∙ late-counters early.content law w.size literals;
      together = λ further. lockstep further early (late_reader a early) (sym lists) (stepped-fit _ _);
    }
