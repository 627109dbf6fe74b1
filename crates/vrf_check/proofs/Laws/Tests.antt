-- Laws about the form of the code: a conjunction as a sequence of tests, tests of the numbers below n, tests of an answer, and 32-bit numbers.
use Rattle.std.specs.Prelude.{◌≡◌, Bool, true, false, not, ◌&&◌, List, ℕ, zero, suc, ◌+◌, ◌*◌, ◌^◌, ◌<◌, ◌≤◌, eqb, Some, None}
use Rattle.std.specs.Prelude.{Option as Answer}
use Rattle.std.specs.List.{list_all, range_with_len}
use Rattle.std.specs.Option.{option_eq}
use Rattle.std.proofs.Math.Path.{refl}
use Rattle.std.proofs.Common.{sym, ap, ◌∙◌, add-one, arith, lt-ltb, le-ltb}
use Rattle.vrf_bitio.specs.Bits.{Bytes}
use Rattle.vrf_bitio.proofs.Laws.Cases.{clash}
use Rattle.vrf_words.proofs.Laws.Words.{word_bound}
use Rattle.vrf_table.specs.Table.{info}
use Rattle.vrf_table.specs.Inner.Answers.{entry}
use Rattle.vrf_table.specs.declared.KeyIndex.{KeyIndex}
use Rattle.vrf_store.specs.UpTo.{all_below}
use Rattle.vrf_store.specs.Check.{is_place, is32}
use Rattle.vrf_store.proofs.Laws.Memory.UpTo.{all_below-each}
use Rattle.vrf_store.proofs.Laws.Check.Steps.{fails, holds}
use Rattle.vrf_check.specs.Inner.Steps.{field_passes, field_row_ok}

-- ---- a conjunction as a sequence of tests: a test that fails ends it

module _ {a : Bool} where
  pub and-stop : (b : Bool) → a ≡ false → false ≡ (a && b)
  and-stop b h = rw h

  pub and-on : {b s : Bool} → a ≡ true → s ≡ b → s ≡ (a && b)
  and-on h e = rw h e

  -- the same by an answer r of the test, where code branches on `!r`
  module _ {r : Bool} (e : r ≡ a) where
    pub stops : (b : Bool) → not r ≡ true → false ≡ (a && b)
    stops b t = and-stop b (fails e t)

    pub goes_on : {b s : Bool} → not r ≡ false → s ≡ b → s ≡ (a && b)
    goes_on t = and-on (holds e t)

-- ---- a test of the numbers below n

module _ (ok : ℕ → Bool) where
  all_first : all_below ok 0 ≡ true
  unfolding all_below
  all_first = refl

  all-last : (i n : ℕ) → i ≤ n → n ≤ i → all_below ok i ≡ true → true ≡ all_below ok n
  all-last i n a b h = let q : n ≡ i = omega arith in rw q (sym h)

  all-next : (i : ℕ) → ok i ≡ true → all_below ok i ≡ true → all_below ok (i + 1) ≡ true
  unfolding all_below
  all-next i e h = rw (add-one, h) e

  all-stop : (i n : ℕ) → i < n → ok i ≡ false → false ≡ all_below ok n
  all-stop i n k e = by (all_below ok n) refl
    where
      by : (b : Bool) → all_below ok n ≡ b → false ≡ b
      by true q = clash (let one = all_below-each ok n q i k in cc)
      by false q = refl

  -- the numbers below i have passed, and n more are tested
  all-from : (n i : ℕ) → all_below ok i ≡ true → list_all ok (range_with_len i n) ≡ all_below ok (i + n)
  all-from zero i h = all-last i (i + 0) (omega arith) (omega arith) h
  all-from (suc n) i h = by (ok i) refl (λ e. all-from n (i + 1) (all-next i e h))
    where
      by : (b : Bool) → ok i ≡ b → (ok i ≡ true → list_all ok (range_with_len (i + 1) n) ≡ all_below ok (i + 1 + n)) → (b && list_all ok (range_with_len (i + 1) n)) ≡ all_below ok (i + suc n)
      by true e rest = let whole : i + 1 + n ≡ i + suc n = omega arith in rest e ∙ ap (all_below ok) whole
      by false e rest = all-stop i (i + suc n) (omega arith) e

  pub all-listed : (n : ℕ) → list_all ok (range_with_len 0 n) ≡ all_below ok n
  all-listed n = let whole : 0 + n ≡ n = omega arith in all-from n 0 all_first ∙ ap (all_below ok) whole

-- ---- the answer of a search

pub found-place : (e : ℕ) (r : Answer ℕ) → option_eq eqb r (Some e) ≡ is_place e (entry r)
unfolding is_place
found-place e None = refl
found-place e (Some i) = refl

-- ---- 32-bit numbers

-- a number below 2 ^ 32 fits
pub is_32 : (n : ℕ) → n < 2 ^ 32 → is32 n ≡ true
unfolding is32
is_32 n h = lt-ltb n (2 ^ 32) h

-- a larger number does not fit
pub not-32 : (n : ℕ) → 2 ^ 32 ≤ n → is32 n ≡ false
unfolding is32
not-32 n h = le-ltb n (2 ^ 32) h

-- a word is a 32-bit number
pub info-32 : (r : List ℕ) (e : ℕ) → Bytes r → is32 (info r e) ≡ true
unfolding info
info-32 r e b = is_32 (info r e) (word_bound r (6 * e + 5) b)

pub field-row : (g t : KeyIndex) (e : ℕ) → Bytes t.rows.now → field_passes g t e ≡ field_row_ok g.rows.now g.count t.rows.now t.heads.now t.buckets t.count e
unfolding field_row_ok
field-row g t e b = rw (info-32 t.rows.now e b)
