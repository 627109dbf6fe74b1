-- The loop over a run's entries, and the run that answers their count. Used by the proof of `read_run`.
use Rattle.std.specs.Prelude.{◌≡◌, List, Err}
use Prim.Native.Nat.{ℕ, zero, suc, ◌+◌, ◌-◌, ◌≤◌, ◌<◌}
use native.Mathlib.Omega.{arith}
use Rattle.vrf_bitio.specs.Answers.{read_here, Gave}
use Rattle.vrf_bitio.specs.declared.BitReader.{BitReader}
use Rattle.vrf_bitio.specs.declared.Refusal.{Refusal}
use Rattle.vrf_model.specs.Names.{number}
use Rattle.vrf_model.specs.Parser.{Parser, return, ◌>>=◌, times}
use Rattle.vrf_model.specs.Runs.{run_of}
use Rattle.vrf_store.specs.Inner.WellFormed.{WellFormed}
use Rattle.vrf_reader.specs.Inner.Simulates.{Simulates, Refines}
use Rattle.vrf_reader.proofs.Laws.Simulates.{stays, then, bind, bind-stop, read-on, stops}

-- ---- the entries

-- the loop invariant: i of n entries are read, and n - i are left
pub record EntriesLeft (entry : Parser (Unit {0})) (n : ℕ) (r₀ : BitReader) (m₀ : List ℕ) (i : ℕ) (r : BitReader) (m : List ℕ) : Type 0 where
  pub simulates : Simulates (times n entry) r₀ m₀ (times (n - i) entry) r m

module _ {entry : Parser (Unit {0})} {n : ℕ} {r₀ : BitReader} {m₀ : List ℕ} where
  pub none_read : WellFormed m₀ → EntriesLeft entry n r₀ m₀ 0 r₀ m₀
  none_read good = record { simulates = let e : n - 0 ≡ n = omega arith in rw e (stays good) }

  module _ {i : ℕ} {r : BitReader} {m : List ℕ} (left : EntriesLeft entry n r₀ m₀ i r m) where
    -- the next entry
    next_one : i < n → Simulates (times n entry) r₀ m₀ (entry >>= λ u. times (n - (i + 1)) entry) r m
    unfolding times
    next_one h = let e : n - i ≡ suc (n - (i + 1)) = omega arith in rw e at left.simulates

    pub one-more : i < n → {d : BitReader} {m' : List ℕ} → Simulates entry r m (return tt) d m' → EntriesLeft entry n r₀ m₀ (i + 1) d m'
    one-more h g = record { simulates = then (next_one h) (bind _ g) }

    pub one-refused : i < n → (q : Refusal) {m' : List ℕ} → Refines entry r r m m' (Err q) → Refines (times n entry) r₀ r₀ m₀ m' (Err q)
    one-refused h q g = stops (next_one h) q (bind-stop _ q g)

    pub all_read : n ≤ i → Simulates (times n entry) r₀ m₀ (return tt) r m
    unfolding times
    all_read h = let e : n - i ≡ zero = omega arith in rw e at left.simulates

-- ---- the run

module _ (entry : Parser (Unit {0})) {r d : BitReader} {m m' : List ℕ} (good : WellFormed m) {n : ℕ} (g : Gave r (read_here r number) n d) where
  pub run-refused : (q : Refusal) → Refines (times n entry) d d m m' (Err q) → Refines (run_of entry) r r m m' (Err q)
  unfolding run_of
  run-refused q h = stops (read-on number _ good g) q (bind-stop _ q h)

  pub run-read : {e : BitReader} → Simulates (times n entry) d m (return tt) e m' → Simulates (run_of entry) r m (return n) e m'
  unfolding run_of
  run-read h = then (read-on number _ good g) (bind _ h)
