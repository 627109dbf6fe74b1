-- The tool's book can be opened with its allowances, and the block reader then gives the answer that `answered` defines. The proof of
-- `read_into` uses these laws.
use Rattle.std.specs.Prelude.{◌≡◌, List, ℕ, ◌≤◌, length, Ok, Err}
use Rattle.std.proofs.Math.Path.{ap}
use Rattle.std.proofs.Common.{◌∙◌, arith, le-ltb}
use Rattle.vrf_bitio.specs.declared.Refusal.{Refusal}
use Rattle.vrf_model.specs.Book.{Book, fresh_book}
use Rattle.vrf_model.specs.Calls.{Answer, whole, read_checkpoint_tables, run}
use Rattle.vrf_store.specs.Opening.{above_top, opened, unless_short, unless_above, opening}
use Rattle.vrf_schema.specs.CallContract.{CallContract}
use Rattle.vrf_schema.specs.OpenContract.{OpenContract}
use Rattle.vrf_tally.specs.Tally.{allowances, answered}

-- no allowance is above its maximum, and together they need 29,332 bytes
opens : {n : ℕ} → 29332 ≤ n → opening allowances n ≡ opened
unfolding opening unless_above above_top unless_short allowances
opens {n} h = rw (le-ltb n 29332 h)

module _ {lent m : List ℕ} where
  pub never-refused : 29332 ≤ length lent → (r : Refusal) → OpenContract allowances lent m (Err r) → ⊥
  never-refused h r started =
      let z : ◌≡◌ {A = ℕ} 0 1 = cc (opens h, started.0) in
      omega arith

  pub answered-by : OpenContract allowances lent m (Ok tt) → (input : List ℕ) {m' : List ℕ} {r : Answer}
      → CallContract (read_checkpoint_tables (whole input)) m m' r → r ≡ answered input
  unfolding answered fresh_book
  answered-by started input called =
      let answer : Book → Answer = λ b. (run (read_checkpoint_tables (whole input)) b.content).answer in
      (called.ran started.accepted).answer ∙ ap answer started.book
