-- The elements of a list, written in a loop. The proofs of `put_guids`, `put_slots` and `put_groups` use these laws.
use Rattle.std.specs.Prelude.{◌≡◌, ℕ, zero, suc, ◌+◌, ◌<◌, ◌≤◌, List, [], ◌∷◌, ◌++◌, length, refl}
use Rattle.std.proofs.Common.{sym, ap, subst, ◌∙◌, add-one, arith, length-append}
use mathlib.Core.List.{append_assoc, append-nil}
use Rattle.vrf_bitio.proofs.Laws.Pasted.{pasted_length}
use Rattle.vrf_model.specs.Writer.{encode_all}
use Rattle.vrf_table.proofs.Laws.Chain.{by_equal}
use Rattle.vrf_store.specs.UpTo.{up_to}
use Rattle.vrf_writer.specs.Inner.Prefix.{WritesPrefix}
use Rattle.vrf_writer.proofs.Laws.Prefix.{under-start, under-end, last-put, lent_from, back_from, PartlyWritten}

module _ {A : Type 0} (f : A → List ℕ) where
  all-last : (l : List A) (a : A) → encode_all f (l ++ (a ∷ [])) ≡ encode_all f l ++ f a
  unfolding encode_all
  all-last [] a = append-nil (f a)
  all-last (x ∷ l) a = rw (all-last l a) (sym (append_assoc (f x) (encode_all f l) (f a)))

  module _ (g : ℕ → A) where
    pub all-next : (i : ℕ) → encode_all f (up_to g (suc i)) ≡ encode_all f (up_to g i) ++ f (g i)
    unfolding up_to
    all-next i = all-last (up_to g i) (g i)

    all-within : (i n : ℕ) → i ≤ n → length (encode_all f (up_to g i)) ≤ length (encode_all f (up_to g n))
    all-within i zero h = let z : i ≡ 0 = omega arith in rw z (omega arith)
    all-within i (suc n) h = by_equal i (suc n)
        (λ q. rw q (omega arith))
        (λ q. omega (arith, all-within i n (omega (arith, h, q)), ap length (all-next n), length-append (encode_all f (up_to g n)) (f (g n))))

-- the first i of n elements are written, and there is space for all n
pub record Sent {A : Type 0} (f : A → List ℕ) (g : ℕ → A) (n : ℕ) (before after : List ℕ) (at i : ℕ) : Type 0 where
  pub put : WritesPrefix (encode_all f (up_to g i)) before after at
  pub within : i ≤ n
  pub fits : length (encode_all f (up_to g n)) ≤ length before

pub sent-start : {A : Type 0} {f : A → List ℕ} {g : ℕ → A} {n : ℕ} {l : List ℕ} → length (encode_all f (up_to g n)) ≤ length l → Sent f g n l l 0 0
unfolding up_to encode_all
sent-start h = record { put = under-end (under-start {code = []} refl (omega arith)) refl; within = omega arith; fits = h }

module _ {A : Type 0} {f : A → List ℕ} {g : ℕ → A} {n : ℕ} {l xs : List ℕ} {at i : ℕ} (s : Sent f g n l xs at i) where
  pub sent-long : length xs ≡ length l
  sent-long = ap length s.put.bytes ∙ pasted_length (encode_all f (up_to g i)) l 0 (omega (arith, s.fits, all-within f g i n s.within))

  pub sent-space : at ≤ length l
  sent-space = omega (arith, s.put.count, s.fits, all-within f g i n s.within)

  -- the next element
  pub sent-under : i < n → PartlyWritten (encode_all f (up_to g (suc i))) l xs at (f (g i))
  sent-under h = record {
    front = encode_all f (up_to g i);
    split = sym (all-next f g i);
    bytes = s.put.bytes;
    count = s.put.count;
    fits = omega (arith, s.fits, all-within f g (suc i) n h);
  }

  pub sent-step : i < n → {ys : List ℕ} {k : ℕ} → WritesPrefix (f (g i)) (lent_from xs at) ys k → Sent f g n l (back_from xs at ys) (at + k) (i + 1)
  sent-step h {ys} {k} p = record {
    put = rw (add-one i) (last-put (sent-under h) refl p);
    within = omega (arith, h);
    fits = s.fits;
  }

  pub sent-end : n ≤ i → WritesPrefix (encode_all f (up_to g n)) l xs at
  sent-end h = let e : i ≡ n = omega (arith, h, s.within) in subst (λ (k : ℕ). WritesPrefix (encode_all f (up_to g k)) l xs at) e s.put
