-- What the writer answers, and exactly when (`Writing` in LateJoin.antt): 44, otherwise 45, otherwise the length. Used in `vrf_writer` and
-- `vrf_schema`.
use Rattle.std.specs.Prelude.{◌≡◌, refl, Bool, true, false, cond, ◌||◌, [], ◌⊎◌, ℕ, ◌<◌, ltb, length}
use Rattle.std.proofs.Common.{subst, inl, inr, arith, lt-ltb, le-ltb, ltb-true, ltb-false}
use Rattle.std.proofs.Math.Bool.{or-true}
use Rattle.std.proofs.Math.Option.{Option, none, some}
use Rattle.vrf_model.specs.Book.{Content}
use Rattle.vrf_model.specs.Writer.{encode_book, first_clash, Written, written, not_written, written_into, write}
use Rattle.vrf_model.specs.Clash.{FirstClash, NoClash, SomeClash}
use Rattle.vrf_model.specs.LateJoin.{Longer, TooLong, Accepts, IsRefused, Writing}
use Rattle.vrf_model.proofs.Laws.Clash.{first-clash, no-clash}

-- ---- the three cases of the answer

data Outcome (capacity : ℕ) (c : Content) : Written → Type 0 where
  clash : {place : ℕ} → FirstClash c.groups place → Outcome capacity c (not_written 44 place 0)
  over : {n : ℕ} → TooLong capacity c n → Outcome capacity c (not_written 45 n 0)
  fits : {n : ℕ} → Accepts capacity c n → Outcome capacity c (written n)

outcome : (capacity : ℕ) (c : Content) → Outcome capacity c (write capacity c)
unfolding write written_into
outcome capacity c = go (first_clash [] c.groups) refl
  where
    n : ℕ
    n = length (encode_book c)

    sized : NoClash c.groups → (p : Bool) → ltb capacity n ≡ p → (q : Bool) → ltb 268435456 n ≡ q → Outcome capacity c (cond (p || q) (not_written 45 n 0) (written n))
    sized e true ep q eq = over (record { clear = e; over = inl (ltb-true capacity n ep); long = refl })
    sized e false ep true eq = over (record { clear = e; over = inr (ltb-true 268435456 n eq); long = refl })
    sized e false ep false eq = fits (record { clear = e; fits = ltb-false capacity n ep; size = ltb-false 268435456 n eq; long = refl })

    go : (x : Option ℕ) → first_clash [] c.groups ≡ x → Outcome capacity c (written_into capacity n x)
    go (some place) e = clash ((first-clash c.groups place).0 e)
    go none e = sized ((no-clash c.groups).0 e) (ltb capacity n) refl (ltb 268435456 n) refl

module _ {capacity : ℕ} {c : Content} where
  only-44 : {w : Written} {place : ℕ} → Outcome capacity c w → w ≡ not_written 44 place 0 → FirstClash c.groups place
  only-44 {place = place} (clash {place = p} e) q = let same : p ≡ place = cc in subst (FirstClash c.groups) same e
  only-44 (over h) q = absurd (let z : ◌≡◌ {A = ℕ} 45 44 = cc in omega arith)
  only-44 (fits h) q = absurd (let z : ◌≡◌ {A = ℕ} 0 1 = cc in omega arith)

  only-45 : {w : Written} {n : ℕ} → Outcome capacity c w → w ≡ not_written 45 n 0 → TooLong capacity c n
  only-45 (clash e) q = absurd (let z : ◌≡◌ {A = ℕ} 44 45 = cc in omega arith)
  only-45 {n = n} (over {n = m} h) q = let e : m ≡ n = cc in subst (TooLong capacity c) e h
  only-45 (fits h) q = absurd (let z : ◌≡◌ {A = ℕ} 0 1 = cc in omega arith)

  only-written : {w : Written} {n : ℕ} → Outcome capacity c w → w ≡ written n → Accepts capacity c n
  only-written (clash e) q = absurd (let z : ◌≡◌ {A = ℕ} 0 1 = cc in omega arith)
  only-written (over h) q = absurd (let z : ◌≡◌ {A = ℕ} 0 1 = cc in omega arith)
  only-written {n = n} (fits {n = m} h) q = let e : m ≡ n = cc in subst (Accepts capacity c) e h

  why : {w : Written} → Outcome capacity c w → IsRefused w → SomeClash c.groups ⊎ Longer capacity c
  why (clash {place = place} f) r = inl (record { earlier = f.earlier; later = place; clash = f.clash })
  why (over h) r = inr h.over
  why (fits h) r = absurd (let z : ◌≡◌ {A = ℕ} 0 1 = cc r.is in omega arith)

  must : {w : Written} → Outcome capacity c w → SomeClash c.groups ⊎ Longer capacity c → IsRefused w
  must (clash {place = place} f) x = record { number = 44; a = place; b = 0; is = refl }
  must (over {n = n} h) x = record { number = 45; a = n; b = 0; is = refl }
  must (fits h) (inl x) = absurd (h.clear _ _ x.clash)
  must (fits h) (inr (inl m)) = absurd (omega (arith, m, h.fits))
  must (fits h) (inr (inr m)) = absurd (omega (arith, m, h.size))

pub write-accepts : (capacity : ℕ) (c : Content) {n : ℕ} → write capacity c ≡ written n → Accepts capacity c n
write-accepts capacity c e = only-written (outcome capacity c) e

pub accepts-write : (capacity : ℕ) (c : Content) {n : ℕ} → Accepts capacity c n → write capacity c ≡ written n
unfolding write written_into
accepts-write capacity c a = rw ((no-clash c.groups).1 a.clear, le-ltb capacity (length (encode_book c)) a.fits, le-ltb 268435456 (length (encode_book c)) a.size, a.long)

clash-write : (capacity : ℕ) (c : Content) {place : ℕ} → FirstClash c.groups place → write capacity c ≡ not_written 44 place 0
unfolding write written_into
clash-write capacity c {place} e = rw ((first-clash c.groups place).1 e)

long-write : (capacity : ℕ) (c : Content) {n : ℕ} → TooLong capacity c n → write capacity c ≡ not_written 45 n 0
unfolding write written_into
long-write capacity c {n} h = rw ((no-clash c.groups).1 h.clear, h.long) (go h.over)
  where
    size : ℕ
    size = length (encode_book c)

    go : (capacity < size) ⊎ (268435456 < size) → cond (ltb capacity size || ltb 268435456 size) (not_written 45 size 0) (written size) ≡ not_written 45 size 0
    go (inl m) = rw (lt-ltb capacity size m)
    go (inr m) = rw (lt-ltb 268435456 size m, or-true (ltb capacity size))

pub writing : (capacity : ℕ) (c : Content) → Writing capacity c
writing capacity c = record {
  refused = (why (outcome capacity c), must (outcome capacity c));
  clashes = λ place. (only-44 (outcome capacity c), clash-write capacity c);
  too_long = λ n. (only-45 (outcome capacity c), long-write capacity c);
  accepted = λ n. (write-accepts capacity c, accepts-write capacity c);
}
