-- The loops over the slots of a group and over the groups of a block: `sum_from` adds up what its readers answer. Used by the proofs of
-- `read_slots` and `read_groups`.
use Rattle.std.specs.Prelude.{◌≡◌, List, ℕ, zero, suc, ◌+◌, ◌-◌, ◌≤◌, ◌<◌, Err}
use Rattle.std.proofs.Math.Path.{refl}
use Rattle.std.proofs.Common.{◌∙◌, arith, zero-add, add-zero, add_assoc}
use Rattle.vrf_bitio.specs.Answers.{rest_of}
use Rattle.vrf_bitio.specs.declared.BitReader.{BitReader}
use Rattle.vrf_bitio.specs.declared.Refusal.{Refusal}
use Rattle.vrf_model.specs.Book.{Content, Increments}
use Rattle.vrf_model.specs.Parser.{Parsed, parsed, failed, Parser, return, bind_parsed, ◌>>=◌, sum_from}
use Rattle.vrf_store.specs.Inner.WellFormed.{WellFormed}
use Rattle.vrf_store.specs.Inner.Stepped.{held}
use Rattle.vrf_reader.specs.Inner.Simulates.{Simulates, Refines}
use Rattle.vrf_reader.proofs.Laws.Simulates.{alike, then, bind, bind-stop, stops}
use Rattle.vrf_reader.proofs.Laws.Chained.{assoc, onward-same}

-- the readers from i on, with their sum added to `total`
abbrev sum_on : (ℕ → Parser ℕ) → (n i total : ℕ) → Parser ℕ
sum_on k n i total = sum_from n i k >>= λ rest. return (total + rest)

module _ (k : ℕ → Parser ℕ) where
  -- nothing is added to 0
  from_zero : (x : Parsed ℕ) → x ≡ bind_parsed (λ rest. return (0 + rest)) x
  unfolding bind_parsed return
  from_zero (parsed a p l c t) = rw (zero-add a)
  from_zero (failed n a b c t) = refl

  none_left : (i total pos : ℕ) (l : List ℕ) (c : Content) (t : Increments) → sum_on k 0 i total pos l c t ≡ return total pos l c t
  unfolding sum_from ◌>>=◌ bind_parsed return
  none_left i total pos l c t = rw (add-zero total)

  together : (total a b pos : ℕ) (l : List ℕ) (c : Content) (t : Increments)
      → (return (a + b) >>= λ rest. return (total + rest)) pos l c t ≡ return (total + a + b) pos l c t
  unfolding ◌>>=◌ bind_parsed return
  together total a b pos l c t = rw (add_assoc total a b)

  one_left : (n i total pos : ℕ) (l : List ℕ) (c : Content) (t : Increments)
      → sum_on k (suc n) i total pos l c t ≡ (k i >>= λ a. sum_on k n (i + 1) (total + a)) pos l c t
  unfolding sum_from
  one_left n i total pos l c t = assoc _ _ (k i) pos l c t ∙ onward-same _ _ with_first (k i) pos l c t
    where
      with_first : (a pos : ℕ) (l : List ℕ) (c : Content) (t : Increments)
          → ((sum_from n (i + 1) k >>= λ b. return (a + b)) >>= λ rest. return (total + rest)) pos l c t
          ≡ sum_on k n (i + 1) (total + a) pos l c t
      with_first a pos l c t =
          assoc _ _ (sum_from n (i + 1) k) pos l c t ∙ onward-same _ _ (together total a) (sum_from n (i + 1) k) pos l c t

-- the loop invariant: i of n readers have ended; their sum is `total`
pub record SumLeft (k : ℕ → Parser ℕ) (n : ℕ) (r₀ : BitReader) (m₀ : List ℕ) (i : ℕ) (r : BitReader) (m : List ℕ) (total : ℕ) : Type 0 where
  pub simulates : Simulates (sum_from n 0 k) r₀ m₀ (sum_on k (n - i) i total) r m
  pub below : i ≤ n

module _ {k : ℕ → Parser ℕ} {n : ℕ} {r₀ : BitReader} {m₀ : List ℕ} where
  pub none_read : WellFormed m₀ → SumLeft k n r₀ m₀ 0 r₀ m₀ 0
  unfolding ◌>>=◌
  none_read good = record {
    simulates = (let e : n - 0 ≡ n = omega arith in rw e (alike good (λ t. from_zero k (sum_from n 0 k r₀.pos (rest_of r₀) (held m₀) t))));
    below = omega arith;
  }

  module _ {i : ℕ} {r : BitReader} {m : List ℕ} {total : ℕ} (left : SumLeft k n r₀ m₀ i r m total) where
    next : i < n → Simulates (sum_from n 0 k) r₀ m₀ (k i >>= λ a. sum_on k (n - (i + 1)) (i + 1) (total + a)) r m
    next h =
        let e : n - i ≡ suc (n - (i + 1)) = omega arith in
        then (rw e at left.simulates) (alike left.simulates.good (one_left k (n - (i + 1)) i total r.pos (rest_of r) (held m)))

    pub one-read : i < n → (a : ℕ) {d : BitReader} {m' : List ℕ} → Simulates (k i) r m (return a) d m'
        → SumLeft k n r₀ m₀ (i + 1) d m' (total + a)
    one-read h a g = record { simulates = then (next h) (bind _ g); below = omega arith }

    pub one-refused : i < n → (q : Refusal) {m' : List ℕ} → Refines (k i) r r m m' (Err q) → Refines (sum_from n 0 k) r₀ r₀ m₀ m' (Err q)
    one-refused h q g = stops (next h) q (bind-stop _ q g)

    pub all_read : n ≤ i → Simulates (sum_from n 0 k) r₀ m₀ (return total) r m
    all_read h =
        let e : n - i ≡ zero = omega arith in
        then (rw e at left.simulates) (alike left.simulates.good (none_left k i total r.pos (rest_of r) (held m)))
