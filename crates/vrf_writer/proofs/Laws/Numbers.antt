-- The bytes of words, packed numbers and texts, part by part. The proofs of `src/numbers.rt` use these laws.
use Rattle.std.specs.Prelude.{◌≡◌, ℕ, zero, suc, ◌+◌, ◌*◌, ◌/◌, ◌%◌, ◌^◌, ◌<◌, ◌≤◌, ◌≢◌, List, [], ◌∷◌, ◌++◌, length, nat_lt, slice_set}
use Rattle.std.proofs.Math.Path.{refl}
use Rattle.std.proofs.Common.{ap, ◌∙◌, arith, length-append, lt-ltb, le-ltb}
use Rattle.std.proofs.Math.Nat.{pow-succ'}
use Rattle.vrf_bitio.specs.Number.{low_bytes, encode_word32, encode_chunks, encode_packed}
use Rattle.vrf_bitio.specs.Pasted.{pasted}
use Rattle.vrf_bitio.proofs.Laws.Number.{low_bytes-length}
use Rattle.vrf_text.specs.Text.{encode_text}
use Rattle.vrf_bitio.proofs.Laws.Cases.{by_cond}
use Rattle.vrf_words.specs.Inner.Words.{set_word}
use Rattle.vrf_writer.specs.Inner.Prefix.{WritesPrefix}
use Rattle.vrf_writer.proofs.Laws.Prefix.{under-start, under-space, under-end, first-put, under-pasted, under-byte, PartlyWritten}

-- ---- words

pub word-length : (n : ℕ) → length (encode_word32 n) ≡ 4
unfolding encode_word32
word-length n = low_bytes-length 4 n

pub word-put : {l ys : List ℕ} (n : ℕ) → ys ≡ set_word l 0 n → WritesPrefix (encode_word32 n) l ys 4
unfolding encode_word32 set_word low_bytes
word-put n e = record { bytes = e; count = refl }

-- ---- packed numbers

-- the chunks of n that are not yet written are those of `left`
pub record Chunks (n : ℕ) (before after : List ℕ) (at left : ℕ) : Type 0 where
  pub more : ℕ
  pub under : PartlyWritten (encode_packed n) before after at (encode_chunks more left)
  pub small : left < 16 * 128 ^ more

some-chunk : (more n : ℕ) → 0 < length (encode_chunks more n)
unfolding encode_chunks
some-chunk zero n = omega arith
some-chunk (suc more) n = by_cond (λ (x : List ℕ). 0 < length x) (nat_lt n 128) (λ e. omega arith) (λ e. omega arith)

pub chunks_start : {n : ℕ} {l : List ℕ} → n < 2 ^ 32 → length (encode_packed n) ≤ length l → Chunks n l l 0 n
unfolding encode_packed
chunks_start h fits = record { more = 4; under = under-start refl fits; small = omega arith }

module _ (left : ℕ) where
  pub last-chunk : (more : ℕ) → left < 128 → encode_chunks more left ≡ 2 * left ∷ []
  unfolding encode_chunks
  last-chunk zero h = refl
  last-chunk (suc more) h = rw (lt-ltb left 128 h)

  pub next-chunk : (more : ℕ) → 128 ≤ left → encode_chunks (suc more) left ≡ (2 * (left % 128) + 1) ∷ encode_chunks more (left / 128)
  unfolding encode_chunks
  next-chunk more h = rw (le-ltb left 128 h)

module _ {n : ℕ} {l xs : List ℕ} {at left : ℕ} where
  pub chunk-step : Chunks n l xs at left → 128 ≤ left → Chunks n l (slice_set xs at (2 * (left % 128) + 1)) (at + 1) (left / 128)
  chunk-step c h = go c.more c.under c.small
    where
      go : (more : ℕ) → PartlyWritten (encode_packed n) l xs at (encode_chunks more left) → left < 16 * 128 ^ more → Chunks n l (slice_set xs at (2 * (left % 128) + 1)) (at + 1) (left / 128)
      go zero u s = absurd (omega arith)
      go (suc more) u s =
          let e : 16 * 128 ^ suc more ≡ 128 * (16 * 128 ^ more) = rw (pow-succ' 128 more) (omega arith) in
          let s' : left < 128 * (16 * 128 ^ more) = rw e at s in
          record { more = more; under = under-byte (2 * (left % 128) + 1) (rw (next-chunk left more h) at u); small = omega arith }

  pub chunk_end : Chunks n l xs at left → left < 128 → WritesPrefix (encode_packed n) l (slice_set xs at (2 * left)) (at + 1)
  chunk_end c h = under-end (under-byte (2 * left) (rw (last-chunk left c.more h) at c.under)) refl

  -- at least one chunk is not yet written, and there is space for it
  pub chunk-space : Chunks n l xs at left → at < length xs
  unfolding encode_chunks
  chunk-space c = omega (arith, under-space c.under, some-chunk c.more left)

-- ---- texts

pub text-code : (t : List ℕ) → length t ≢ 0 → encode_text t ≡ encode_word32 (length t + 1) ++ (t ++ (0 ∷ []))
unfolding encode_text
text-code [] h = absurd (h refl)
text-code (b ∷ t) h = refl

pub empty-put : (t : List ℕ) {l ys : List ℕ} {n : ℕ} → length t ≡ 0 → WritesPrefix (encode_word32 0) l ys n → WritesPrefix (encode_text t) l ys n
unfolding encode_text
empty-put [] h p = p
empty-put (b ∷ t) h p = absurd (omega arith)

-- a text begins with a word
pub text-four : (t : List ℕ) → 4 ≤ length (encode_text t)
unfolding encode_text
text-four [] = omega (arith, word-length 0)
text-four (b ∷ t) = omega (arith, length-append (encode_word32 (length (b ∷ t) + 1)) ((b ∷ t) ++ (0 ∷ [])), word-length (length (b ∷ t) + 1))

module _ (t l : List ℕ) (some_bytes : length t ≢ 0) (fits : length (encode_text t) ≤ length l) where
  pub text_space : length t + 5 ≤ length l
  text_space = omega (arith, fits, ap length (text-code t some_bytes), length-append (encode_word32 (length t + 1)) (t ++ (0 ∷ [])), length-append t (0 ∷ []), word-length (length t + 1))

  pub text-put : {xs ys : List ℕ} {n : ℕ} → WritesPrefix (encode_word32 (length t + 1)) l xs n → ys ≡ pasted xs 4 t → WritesPrefix (encode_text t) l (slice_set ys (4 + length t) 0) (4 + length t + 1)
  text-put {n = n} p e =
      let four : n ≡ 4 = p.count ∙ word-length (length t + 1) in
      let headed = first-put l (encode_word32 (length t + 1)) (t ++ (0 ∷ [])) (text-code t some_bytes) fits refl p in
      under-end (under-byte 0 (under-pasted t (0 ∷ []) (rw four at headed) e)) refl
