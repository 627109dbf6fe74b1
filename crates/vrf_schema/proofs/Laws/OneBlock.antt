-- One book, one block (`OneBlock` of `vrf_model`), for the books that any two lists of calls make: two books whose writing is accepted give
-- the same bytes exactly if they hold the same lists, and no block is a proper prefix of another.
use Rattle.std.specs.Prelude.{◌≡◌, List, ℕ, Ok}
use Rattle.vrf_model.specs.Book.{Allowances}
use Rattle.vrf_model.specs.Writer.{written, write}
use Rattle.vrf_model.specs.Calls.{Call, Answer}
use Rattle.vrf_model.specs.OneBlock.{OneBlock}
use Rattle.vrf_model.proofs.Laws.OneBlock.{determined}
use Rattle.vrf_store.specs.Store.{book_of}
use Rattle.vrf_schema.specs.OpenContract.{OpenContract}
use Rattle.vrf_schema.specs.Demand3.{Trace}
use Rattle.vrf_schema.proofs.Laws.Demand3.{trace-lawful}

pub one-book-one-block : {a b : Allowances} {lent lent' m₀ n₀ m n : List ℕ} → OpenContract a lent m₀ (Ok tt) → OpenContract b lent' n₀ (Ok tt)
    → {calls others : List Call} {rs qs : List Answer} → Trace calls m₀ rs m → Trace others n₀ qs n → (capacity capacity' : ℕ) {i j : ℕ}
    → write capacity (book_of m).content ≡ written i → write capacity' (book_of n).content ≡ written j → OneBlock (book_of m).content (book_of n).content
one-book-one-block opened opened' p q capacity capacity' accepted accepted' = determined _ _ (trace-lawful opened p) (trace-lawful opened' q) capacity capacity' accepted accepted'
