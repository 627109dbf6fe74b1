-- Laws of decimal numbers, one digit at a time, and of their lengths; then what fits a buffer. Used by this crate's proofs and by
-- vrf_reader and vrf_tally.
use Rattle.std.specs.Prelude.{◌≡◌, ℕ, zero, suc, ◌+◌, ◌*◌, ◌/◌, ◌%◌, ◌^◌, ◌<◌, ◌≤◌, max}
use Rattle.std.proofs.Common.{ap, arith, length-append}
use mathlib.Core.List.{List, [], ◌∷◌, ◌++◌}
use Prim.Native.Char.{code}
use Rattle.std.proofs.Math.Nat.{pow-succ'}
use Rattle.std.proofs.Math.ListN.{length}
use borrow.Author.Tests.{lt-ltb, le-ltb}
use Rattle.vrf_bitio.proofs.Laws.Cases.{by_order}
use Rattle.vrf_bitio.specs.Pasted.{pasted}
use Rattle.vrf_names.specs.Names.{digits, decimal, named, refused, rendered_into}
use Rattle.vrf_names.specs.Answers.{put_into}

-- two bounds that are both above the number give the same digits
digits-enough : (a b n : ℕ) → n < a → n < b → digits a n ≡ digits b n
unfolding digits
digits-enough zero b n ha hb = absurd (omega arith)
digits-enough (suc a) zero n ha hb = absurd (omega arith)
digits-enough (suc a) (suc b) n ha hb =
    by_order 10 n (λ many. rw (le-ltb n 10 many, digits-enough a b (n / 10) (omega arith) (omega arith))) (λ one. rw (lt-ltb n 10 one))

module _ (n : ℕ) where
  pub decimal-one : n < 10 → decimal n ≡ (code "0" + n) ∷ []
  unfolding decimal digits
  decimal-one h = rw (lt-ltb n 10 h)

  pub decimal-more : 10 ≤ n → decimal n ≡ decimal (n / 10) ++ ((code "0" + n % 10) ∷ [])
  unfolding decimal digits
  decimal-more h = rw (le-ltb n 10 h) (ap (λ (l : List ℕ). l ++ ((code "0" + n % 10) ∷ [])) (digits-enough n (suc (n / 10)) (n / 10) (omega arith) (omega arith)))

  pub more-length : 10 ≤ n → length (decimal n) ≡ length (decimal (n / 10)) + 1
  more-length h = rw (decimal-more h, length-append)

pub decimal-some : (n : ℕ) → 0 < length (decimal n)
decimal-some n = by_order 10 n (λ many. rw (more-length n many) (omega arith)) (λ one. rw (decimal-one n one) (omega arith))

-- a number below 10 ^ (k + 1) has at most k + 1 digits
pub decimal-length : (k n : ℕ) → n < 10 ^ suc k → length (decimal n) ≤ suc k
decimal-length zero n h = rw (decimal-one n h) (omega arith)
decimal-length (suc k) n h =
    let p : n < 10 * 10 ^ suc k = rw (pow-succ' 10 (suc k)) at h in
    by_order 10 n (λ many. rw (more-length n many) (omega (arith, decimal-length k (n / 10) (omega arith)))) (λ one. rw (decimal-one n one) (omega arith))

-- a number from 10 ^ k on and below 10 ^ (k + 1), or 0 in place of 1, has k + 1 digits
pub counted : (k n : ℕ) → 10 ^ k ≤ max n 1 → max n 1 < 10 * 10 ^ k → k + 1 ≡ length (decimal n)
counted zero n h l = rw (decimal-one n (omega arith))
counted (suc k) n h l =
    let p : 10 ^ suc k ≡ 10 * 10 ^ k = pow-succ' 10 k in
    let many : 10 ≤ n = omega (arith, ten-power k) in
    let next : k + 1 ≡ length (decimal (n / 10)) = counted k (n / 10) (omega arith) (omega arith) in
    rw (more-length n many) (omega arith)
  where
    ten-power : (k : ℕ) → 0 < 10 ^ k
    ten-power zero = omega arith
    ten-power (suc k) = rw (pow-succ' 10 k) (omega (arith, ten-power k))

-- a text that fits a buffer from a place on, and one that does not
module _ (before t : List ℕ) (at : ℕ) where
  pub put-fits : at + length t ≤ length before → put_into before at t ≡ pasted before at t
  unfolding put_into
  put-fits h = rw (le-ltb (length before) (at + length t) h)

  pub put-nothing : length before < at + length t → put_into before at t ≡ before
  unfolding put_into
  put-nothing h = rw (lt-ltb (length before) (at + length t) h)

-- a rendered name for a target of m bytes, by cases
module _ (m : ℕ) (t : List ℕ) where
  pub into-long : 4096 < length t → rendered_into m t ≡ refused 41 (length t) 0
  unfolding rendered_into
  into-long h = rw (lt-ltb 4096 (length t) h)

  pub into-short : length t ≤ 4096 → m < length t → rendered_into m t ≡ refused 15 (8 * length t) (8 * m)
  unfolding rendered_into
  into-short l h = rw (le-ltb 4096 (length t) l, lt-ltb m (length t) h)

  pub into-fits : length t ≤ 4096 → length t ≤ m → rendered_into m t ≡ named t
  unfolding rendered_into
  into-fits l h = rw (le-ltb 4096 (length t) l, le-ltb m (length t) h)
