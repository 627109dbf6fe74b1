-- Demand 3 (document 01, The book), stated over the contracts of the exported functions: a reader who joins late, from a written block,
-- always agrees with one who was there from the start. The statement mentions the code only through `OpenContract`, `CallContract` and
-- `WriteContract`, the contracts of the exported functions. `Laws.Demand3` proves it.
use Rattle.std.specs.Prelude.{◌≡◌, List, [], ◌∷◌, ℕ, ◌≤◌, length, take, Result, Ok}
use Rattle.vrf_bitio.specs.declared.Refusal.{Refusal}
use Rattle.vrf_model.specs.Book.{Allowances, fresh_book}
use Rattle.vrf_model.specs.Writer.{write}
use Rattle.vrf_model.specs.Calls.{GroupLookup, of_groups, Call, lookup, Answer, block_counts, whole, read_checkpoint_tables, look_groups, play, answers}
use Rattle.vrf_model.specs.Answers.{wrote_of}
use Rattle.vrf_model.specs.LateJoin.{Writing, counts_of_block, counters_of_block, apart}
use Rattle.vrf_store.specs.Store.{book_of}
use Rattle.vrf_schema.specs.CallContract.{CallContract}
use Rattle.vrf_schema.specs.OpenContract.{OpenContract}
use Rattle.vrf_schema.specs.WriteContract.{WriteContract}

-- ---- lists of calls

-- A chain of the exported functions' contracts, and nothing else. Each call gets the memory that the call before it left, refused or not.
-- Nobody else writes to the memory in between.
-- Every list of calls has such a chain, from every memory. Each constructor of `Call` has its exported function (`tests/exports` checks
-- this). The function requires nothing of its caller and ends on every input. Its answer and the memory it leaves satisfy `CallContract`,
-- so that memory can be given to the next call. `opens` (`Laws.Opens`) proves where chains begin: for all allowances within their maximum,
-- every memory that is long enough can be opened as `OpenContract` requires.
pub data Trace : List Call → List ℕ → List Answer → List ℕ → Type 0 where
  nothing : {m : List ℕ} → Trace [] m [] m
  next : {k : Call} {ks : List Call} {m m₁ m' : List ℕ} {r : Answer} {rs : List Answer} → CallContract k m m₁ r → Trace ks m₁ rs m' → Trace (k ∷ ks) m (r ∷ rs) m'

-- ---- the claim

-- on the memory m, lookups of groups (by path, index or leaf, and what is at a place) answer what document 01 reads off the group list alone
pub record OffList (m : List ℕ) : Type 0 where
  pub answered : (l : GroupLookup) {m' : List ℕ} {r : Answer} → CallContract (lookup (of_groups l)) m m' r → r ≡ look_groups l (book_of m).content.groups

-- what the early and the late reader have after the same further calls
pub record Agree (m late : List ℕ) (rs : List Answer) (m' : List ℕ) (qs : List Answer) (late' : List ℕ) : Type 0 where
  -- equal answers, counts and positions included; refusals are equal in number, a and b
  pub answers : rs ≡ qs
  -- equal GUID and group lists
  pub lists : (book_of m').content ≡ (book_of late').content
  -- the readers' counters differ by the same amounts, modulo 2^64, as before these calls
  pub counters : apart (book_of m').counters (book_of late').counters ≡ apart (book_of m).counters (book_of late).counters
  -- for both readers, lookups of groups depend on the group list alone
  pub early_lookups : OffList m'
  pub late_lookups : OffList late'

-- The early reader has the memory m. The late reader has read the early reader's block with the answer r, and has the memory `late`.
pub record LateReader (m late : List ℕ) (r : Answer) : Type 0 where
  -- the block was not refused: the seven counts are those of the early reader's book
  pub answered : r ≡ block_counts (counts_of_block (book_of m).content)
  pub lists : (book_of late).content ≡ (book_of m).content
  -- its generations are the numbers of groups and of GUIDs, its other counters are 0
  pub counters : (book_of late).counters ≡ counters_of_block (book_of m).content
  pub together : (further : List Call) {rs qs : List Answer} {m' late' : List ℕ} → Trace further m rs m' → Trace further late qs late' → Agree m late rs m' qs late'

-- Demand 3, sentence by sentence (the late seat of document 01 is the late reader here):
-- 'Demand 3 is a single claim over whole lists of calls, not one for each call.' `calls` in `Demand-3` and `further` are any lists.
-- 'Each call gets the book as the one before left it, refused or not, and nobody else writes it meanwhile.' This is `Trace`.
-- 'The GUID and group lists are what this document, and the Rust where it is silent, makes of the allowances and the calls' arguments
-- alone.' This is `book`.
-- 'Writing changes no book; the late seat's window is the written block.' `WriteContract` has one memory, the same before and after; the
-- window is the first n bytes of the buffer.
-- 'The further list goes on from both books, with the same arguments.' This is `together`.
-- 'Answers are compared with their counts and positions, refusals with number, a and b.' An `Answer` holds all of these.
pub record LateJoin (a : Allowances) (calls : List Call) (rs : List Answer) (m : List ℕ) : Type 0 where
  -- the early reader's book and answers are what the definitions make of the allowances and the calls
  pub book : book_of m ≡ play calls (fresh_book a)
  pub answered : rs ≡ answers calls (fresh_book a)
  -- For all allowances: the writer is refused exactly if some group's path is a key of an earlier group (44) or the block is too long (45).
  pub writing : {before after : List ℕ} {r : Result ℕ Refusal} → WriteContract m before after r → (wrote_of r ≡ write (length before) (book_of m).content) × Writing (length before) (book_of m).content
  -- If the writer is not refused, a late memory that is opened with the same allowances reads the block, and from then on the two readers
  -- agree. The allowance of literals must be at least that of GUIDs: the writer sends every GUID's path as a literal, so with fewer
  -- literals some blocks could not be read.
  pub joins : a.guids ≤ a.literals → {before after : List ℕ} {n : ℕ} → WriteContract m before after (Ok n)
      → {lent late₀ late : List ℕ} {r : Answer} → OpenContract a lent late₀ (Ok tt) → CallContract (read_checkpoint_tables (whole (take n after))) late₀ late r
      → LateReader m late r
  -- For all allowances: the early reader's lookups of groups depend on the group list alone. `Agree` states this for both readers after
  -- further calls. A late memory that could not read the block is also an opened memory after a list of calls, so this covers it too.
  pub lookups : OffList m

-- Demand 3, for every set of allowances with which a book was opened, and for every list of calls.
pub record Demand-3 : Type 0 where
  pub late_join : (a : Allowances) {lent m₀ m : List ℕ} → OpenContract a lent m₀ (Ok tt) → (calls : List Call) {rs : List Answer} → Trace calls m₀ rs m → LateJoin a calls rs m
