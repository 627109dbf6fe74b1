-- Laws of bytes, words and packed numbers: the outcome at each byte of a packed number, and that reading gives back what was written.
use Rattle.std.specs.Prelude.{◌≡◌, refl, List, ◌∷◌, ◌++◌, length}
use Rattle.std.proofs.Common.{ap, ◌∙◌}
use Prim.Native.Nat.{ℕ, zero, suc, ◌+◌, ◌*◌, ◌/◌, ◌%◌, ◌^◌, ◌<◌, ◌≤◌}
use Rattle.std.proofs.Math.Nat.{pow-succ'}
use Rattle.std.proofs.Math.Decide.{dec_lt}
use native.Mathlib.Omega.{arith}
use borrow.Author.Tests.{eq-eqb, ne_eqb, lt-ltb, le-ltb}
use Rattle.vrf_bitio.specs.Reading.{ok, refused, return}
use Rattle.vrf_bitio.specs.Number.{byte, word32, chunks, packed, low_bytes, encode_word32, encode_chunks, encode_packed}
use Rattle.vrf_bitio.proofs.Laws.Reading.{bind_ok, bind-refused, Decodes}

module _ (start weight low pos : ℕ) (l : List ℕ) where
  -- no byte left
  pub chunks-lacks : (more : ℕ) {n a b : ℕ} → byte pos l ≡ refused n a b → chunks start more weight low pos l ≡ refused n a b
  unfolding chunks
  chunks-lacks zero e = bind-refused byte _ pos l e
  chunks-lacks (suc more) e = bind-refused byte _ pos l e

module _ (start weight low pos : ℕ) (l : List ℕ) {b p : ℕ} {m : List ℕ} (e : byte pos l ≡ ok b p m) where
  -- the fifth byte
  pub last-runs-on : b % 2 ≡ 1 → chunks start 0 weight low pos l ≡ refused 11 start 0
  unfolding chunks
  last-runs-on h = bind_ok byte _ pos l e ∙ rw (eq-eqb _ _ h)

  pub last-too-large : (b % 2 ≡ 1 → ⊥) → 15 < b / 2 → chunks start 0 weight low pos l ≡ refused 12 start 0
  unfolding chunks
  last-too-large h h15 = bind_ok byte _ pos l e ∙ rw (ne_eqb _ _ h, lt-ltb _ _ h15)

  pub last-ends : (b % 2 ≡ 1 → ⊥) → b / 2 ≤ 15 → chunks start 0 weight low pos l ≡ ok (low + weight * (b / 2)) p m
  unfolding chunks return
  last-ends h h15 = bind_ok byte _ pos l e ∙ rw (ne_eqb _ _ h, le-ltb _ _ h15)

  -- one of the first four bytes
  pub chunk-ends : (more : ℕ) → b % 2 ≡ 0 → chunks start (suc more) weight low pos l ≡ ok (low + weight * (b / 2)) p m
  unfolding chunks return
  chunk-ends more h =
      let odd : b % 2 ≡ 1 → ⊥ = omega arith in
      bind_ok byte _ pos l e ∙ rw (ne_eqb _ _ odd)

  pub chunk-continues : (more : ℕ) → (b % 2 ≡ 0 → ⊥) → chunks start (suc more) weight low pos l ≡ chunks start more (weight * 128) (low + weight * (b / 2)) p m
  unfolding chunks
  chunk-continues more h =
      let odd : b % 2 ≡ 1 = omega arith in
      bind_ok byte _ pos l e ∙ rw (eq-eqb _ _ odd)

pub low_bytes-length : (k v : ℕ) → length (low_bytes k v) ≡ k
unfolding low_bytes
low_bytes-length zero v = refl
low_bytes-length (suc k) v = ap suc (low_bytes-length k (v / 256))

-- the four base-256 digits of a 32-bit number add up to the number again
digits_of : (n q r s : ℕ) → q ≡ n / 256 → r ≡ q / 256 → s ≡ r / 256 → n < 2 ^ 32 → n % 256 + 256 * (q % 256) + 65536 * (r % 256) + 16777216 * (s % 256) ≡ n
digits_of n q r s a b c h =
    let e0 : n ≡ n % 256 + 256 * q = omega arith in
    let e1 : q ≡ q % 256 + 256 * r = omega arith in
    let e2 : r ≡ r % 256 + 256 * s = omega arith in
    let e3 : s % 256 ≡ s = omega arith in
    omega arith

pub digits : (n : ℕ) → n < 2 ^ 32 → n % 256 + 256 * (n / 256 % 256) + 65536 * (n / 256 / 256 % 256) + 16777216 * (n / 256 / 256 / 256 % 256) ≡ n
digits n h = digits_of n (n / 256) (n / 256 / 256) (n / 256 / 256 / 256) refl refl refl h

-- reading the writer's bytes of a word gives the word back
pub word32-decodes : (n : ℕ) → n < 2 ^ 32 → Decodes word32 (encode_word32 n) n
unfolding word32 encode_word32 low_bytes
word32-decodes n h pos tail = ap (λ (k : ℕ). ok k (pos + 32) tail) (digits n h)

-- reading the writer's bytes of the chunks of n adds weight * n to what was read before
pub chunks-decode : (more n start weight low pos : ℕ) (tail : List ℕ) → n < 16 * 128 ^ more
    → chunks start more weight low pos (encode_chunks more n ++ tail) ≡ ok (low + weight * n) (pos + 8 * length (encode_chunks more n)) tail
unfolding encode_chunks byte
chunks-decode zero n start weight low pos tail h =
    let half : 2 * n / 2 ≡ n = omega arith in
    let even : 2 * n % 2 ≡ 1 → ⊥ = omega arith in
    last-ends start weight low pos (2 * n ∷ tail) refl even (omega arith) ∙ ap (λ (k : ℕ). ok (low + weight * k) (pos + 8) tail) half
chunks-decode (suc more) n start weight low pos tail h = elim (dec_lt n 128) [ yes few ↦ one few | no many ↦ rest many (chunks-decode more (n / 128) start (weight * 128) (low + weight * (n % 128)) (pos + 8) tail smaller) ]
  where
    smaller : n / 128 < 16 * 128 ^ more
    smaller =
        let e : 16 * 128 ^ suc more ≡ 128 * (16 * 128 ^ more) = rw (pow-succ' 128 more) (omega arith) in
        let h' : n < 128 * (16 * 128 ^ more) = rw e at h in
        omega arith

    one : n < 128 → chunks start (suc more) weight low pos (encode_chunks (suc more) n ++ tail) ≡ ok (low + weight * n) (pos + 8 * length (encode_chunks (suc more) n)) tail
    one few =
        let half : 2 * n / 2 ≡ n = omega arith in
        let even : 2 * n % 2 ≡ 0 = omega arith in
        rw (lt-ltb n 128 few) (chunk-ends start weight low pos (2 * n ∷ tail) refl more even ∙ ap (λ (k : ℕ). ok (low + weight * k) (pos + 8) tail) half)

    rest : ¬ (n < 128) → chunks start more (weight * 128) (low + weight * (n % 128)) (pos + 8) (encode_chunks more (n / 128) ++ tail)
        ≡ ok (low + weight * (n % 128) + weight * 128 * (n / 128)) (pos + 8 + 8 * length (encode_chunks more (n / 128))) tail
        → chunks start (suc more) weight low pos (encode_chunks (suc more) n ++ tail) ≡ ok (low + weight * n) (pos + 8 * length (encode_chunks (suc more) n)) tail
    rest many ih =
        let b : ℕ = 2 * (n % 128) + 1 in
        let half : b / 2 ≡ n % 128 = omega arith in
        let odd : b % 2 ≡ 0 → ⊥ = omega arith in
        let whole : n ≡ n % 128 + 128 * (n / 128) = omega arith in
        let value : low + weight * (n % 128) + weight * 128 * (n / 128) ≡ low + weight * n = omega (arith, ap (λ (k : ℕ). weight * k) whole) in
        let place : pos + 8 + 8 * length (encode_chunks more (n / 128)) ≡ pos + 8 * suc (length (encode_chunks more (n / 128))) = omega arith in
        rw (le-ltb n 128 (omega arith)) (chunk-continues start weight low pos (b ∷ (encode_chunks more (n / 128) ++ tail)) refl more odd ∙ rw half (ih ∙ rw (value, place)))

pub packed-decodes : (n : ℕ) → n < 2 ^ 32 → Decodes packed (encode_packed n) n
unfolding packed encode_packed
packed-decodes n h pos tail =
    let one : 0 + 1 * n ≡ n = omega arith in
    chunks-decode 4 n pos 1 0 pos tail (omega arith) ∙ ap (λ (k : ℕ). ok k (pos + 8 * length (encode_chunks 4 n)) tail) one
