-- The lengths of packed numbers and texts. The proofs of `packed_len` and `text_len`, and `Laws.Size`, use these laws.
use Rattle.std.specs.Prelude.{◌≡◌, ℕ, zero, suc, ◌+◌, ◌*◌, ◌/◌, ◌<◌, ◌≤◌, ◌≢◌, List, [], ◌∷◌, ◌++◌, length, nat_lt, refl}
use Rattle.std.proofs.Common.{sym, ap, ◌∙◌, arith, length-append, lt-ltb, le-ltb}
use Rattle.vrf_bitio.specs.Number.{encode_word32, encode_chunks, encode_packed}
use Rattle.vrf_text.specs.Text.{encode_text}
use Rattle.vrf_bitio.proofs.Laws.Cases.{by_cond, by_order}
use Rattle.vrf_writer.specs.Inner.Numbers.{one_from}
use Rattle.vrf_writer.proofs.Laws.Numbers.{word-length, last-chunk, next-chunk, text-code}

-- ---- packed numbers

chunks-short : (more n : ℕ) → length (encode_chunks more n) ≤ suc more
unfolding encode_chunks
chunks-short zero n = omega arith
chunks-short (suc more) n = by_cond (λ (x : List ℕ). length x ≤ suc (suc more)) (nat_lt n 128) (λ e. omega arith) (λ e. omega (arith, chunks-short more (n / 128)))

pub packed-short : (n : ℕ) → length (encode_packed n) ≤ 5
unfolding encode_packed
packed-short n = chunks-short 4 n

module _ (least n : ℕ) where
  pub below : n < least → one_from least n ≡ 0
  unfolding one_from
  below h = rw (lt-ltb n least h)

  pub from : least ≤ n → one_from least n ≡ 1
  unfolding one_from
  from h = rw (le-ltb n least h)

shift : (least n : ℕ) → one_from least (n / 128) ≡ one_from (128 * least) n
shift least n = by_order (128 * least) n
    (λ h. from least (n / 128) (omega arith) ∙ sym (from (128 * least) n h))
    (λ h. below least (n / 128) (omega arith) ∙ sym (below (128 * least) n h))

-- one more chunk, if n is 128 or more
chunks-next : (more n others : ℕ) → (128 ≤ n → length (encode_chunks more (n / 128)) ≡ 1 + others) → (n < 128 → others ≡ 0) → length (encode_chunks (suc more) n) ≡ 1 + one_from 128 n + others
chunks-next more n others big small = by_order 128 n
    (λ h. omega (arith, ap length (next-chunk n more h), big h, from 128 n h))
    (λ h. omega (arith, ap length (last-chunk n (suc more) h), small h, below 128 n h))

two : (n : ℕ) → length (encode_chunks 1 n) ≡ 1 + one_from 128 n
unfolding encode_chunks
two n = omega (arith, chunks-next 0 n 0 (λ h. refl) (λ h. refl))

three : (n : ℕ) → length (encode_chunks 2 n) ≡ 1 + one_from 128 n + one_from 16384 n
three n = chunks-next 1 n (one_from 16384 n) (λ h. omega (arith, two (n / 128), shift 128 n)) (λ h. below 16384 n (omega arith))

four : (n : ℕ) → length (encode_chunks 3 n) ≡ 1 + one_from 128 n + (one_from 16384 n + one_from 2097152 n)
four n = chunks-next 2 n (one_from 16384 n + one_from 2097152 n) (λ h. omega (arith, three (n / 128), shift 128 n, shift 16384 n)) (λ h. omega (arith, below 16384 n (omega arith), below 2097152 n (omega arith)))

pub packed-sum : (n : ℕ) → 1 + one_from 128 n + one_from 16384 n + one_from 2097152 n + one_from 268435456 n ≡ length (encode_packed n)
unfolding encode_packed
packed-sum n =
    let others : ℕ = one_from 16384 n + one_from 2097152 n + one_from 268435456 n in
    let count = chunks-next 3 n others
    (λ h. omega (arith, four (n / 128), shift 128 n, shift 16384 n, shift 2097152 n))
    (λ h. omega (arith, below 16384 n (omega arith), below 2097152 n (omega arith), below 268435456 n (omega arith))) in
    omega (arith, count)

-- ---- texts

pub text-none : (t : List ℕ) → length t ≡ 0 → length (encode_text t) ≡ 4
unfolding encode_text
text-none [] h = word-length 0
text-none (b ∷ t) h = absurd (omega arith)

pub text-some : (t : List ℕ) → length t ≢ 0 → length (encode_text t) ≡ length t + 5
text-some t h = omega (arith, ap length (text-code t h), length-append (encode_word32 (length t + 1)) (t ++ (0 ∷ [])), length-append t (0 ∷ []), word-length (length t + 1))

pub text-short : (t : List ℕ) → length (encode_text t) ≤ length t + 5
text-short t = by_order (length t) 0 (λ h. omega (arith, text-none t (omega arith))) (λ h. omega (arith, text-some t (λ z. omega (arith, z, h))))
