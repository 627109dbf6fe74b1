-- Laws about tables: buckets are in range, and what the words of each row are after `set_key` and `set_text`. The proofs of `vrf_store` use
-- them.
use Rattle.std.specs.Prelude.{◌≡◌, ℕ, ◌+◌, ◌-◌, ◌*◌, ◌/◌, ◌%◌, ◌^◌, ◌<◌, ◌≤◌, ◌≢◌, List, length, nat_lt}
use Rattle.std.proofs.Common.{◌∙◌, arith, mul-lt-mul_of_pos_right, ltb-false}
use Rattle.vrf_bitio.proofs.Laws.Cases.{by_cond}
use Rattle.vrf_words.specs.Words.{word}
use Rattle.vrf_words.specs.Inner.Words.{set_word}
use Rattle.vrf_words.proofs.Laws.Words.{length-set_word, word-set_word-same, word-set_word-other}
use Rattle.vrf_table.specs.Table.{key, link, at, len, info, bucket, key_hash, key_bucket}
use Rattle.vrf_table.specs.TextIndex.{text_hash, mixed, text_bucket}
use Rattle.vrf_table.specs.Inner.Table.{set_text, set_key}

-- ---- buckets

pub bucket-lt : (b hash : ℕ) → 0 < b → hash < 2 ^ 32 → bucket b hash < b
unfolding bucket
bucket-lt b hash h k = omega (arith, mul-lt-mul_of_pos_right {m = hash} {n = 2 ^ 32} {k = b} k h)

pub key_hash-lt : (k : ℕ) → key_hash k < 2 ^ 32
unfolding key_hash
key_hash-lt k = omega arith

pub key_bucket-lt : (b k : ℕ) → 0 < b → key_bucket b k < b
unfolding key_bucket
key_bucket-lt b k h =
    by_cond (λ (i : ℕ). i < b) (nat_lt b 4096) (λ _. bucket-lt b (key_hash k) h (key_hash-lt k))
    (λ e. omega (arith, ltb-false b 4096 e, bucket-lt (b - 63) (key_hash (k / 64)) (omega (arith, ltb-false b 4096 e)) (key_hash-lt (k / 64))))

pub mixed-lt : (h : ℕ) → mixed h < 2 ^ 32
unfolding mixed
mixed-lt h = omega arith

pub text_bucket-lt : (b : ℕ) (t : List ℕ) → 0 < b → text_bucket b t < b
unfolding text_bucket
text_bucket-lt b t h = bucket-lt b (mixed (text_hash t)) h (mixed-lt (text_hash t))

-- ---- writing three words

abbrev three : List ℕ → (h i j u v w : ℕ) → List ℕ
three r h i j u v w = set_word (set_word (set_word r h u) i v) j w

module _ (r : List ℕ) (h i j u v w : ℕ) (a : h < i) (b : i < j) (fits : 4 * j + 4 ≤ length r) where
  one-long : length (set_word r h u) ≡ length r
  one-long = length-set_word r h u (omega arith)

  two-long : length (set_word (set_word r h u) i v) ≡ length r
  two-long = length-set_word (set_word r h u) i v (omega (arith, one-long)) ∙ one-long

  three-long : length (three r h i j u v w) ≡ length r
  three-long = length-set_word (set_word (set_word r h u) i v) j w (omega (arith, two-long)) ∙ two-long

  last-other : (m : ℕ) → m ≢ j → word (three r h i j u v w) m ≡ word (set_word (set_word r h u) i v) m
  last-other m ne = word-set_word-other (set_word (set_word r h u) i v) j w m (omega (arith, two-long)) ne

  two-other : (m : ℕ) → m ≢ i → m ≢ j → word (three r h i j u v w) m ≡ word (set_word r h u) m
  two-other m ni nj = last-other m nj ∙ word-set_word-other (set_word r h u) i v m (omega (arith, one-long)) ni

  three-other : (m : ℕ) → m ≢ h → m ≢ i → m ≢ j → word (three r h i j u v w) m ≡ word r m
  three-other m nh ni nj = two-other m ni nj ∙ word-set_word-other r h u m (omega arith) nh

  first : u < 2 ^ 32 → word (three r h i j u v w) h ≡ u
  first s = two-other h (λ q. omega (arith, q)) (λ q. omega (arith, q)) ∙ word-set_word-same r h u (omega arith) s

  second : v < 2 ^ 32 → word (three r h i j u v w) i ≡ v
  second s = last-other i (λ q. omega (arith, q)) ∙ word-set_word-same (set_word r h u) i v (omega (arith, one-long)) s

  third : w < 2 ^ 32 → word (three r h i j u v w) j ≡ w
  third s = word-set_word-same (set_word (set_word r h u) i v) j w (omega (arith, two-long)) s

-- ---- writing a key and a link

module _ (r : List ℕ) (e k l : ℕ) (fits : 24 * e + 24 ≤ length r) where
  pub length-set_key : length (set_key r e k l) ≡ length r
  unfolding set_key
  length-set_key = three-long r (6 * e) (6 * e + 1) (6 * e + 2) _ _ l (omega arith) (omega arith) (omega arith)

  outside-key : (m : ℕ) → m ≢ 6 * e → m ≢ 6 * e + 1 → m ≢ 6 * e + 2 → word (set_key r e k l) m ≡ word r m
  unfolding set_key
  outside-key m = three-other r (6 * e) (6 * e + 1) (6 * e + 2) _ _ l (omega arith) (omega arith) (omega arith) m

  pub key-set_key : k < 2 ^ 64 → key (set_key r e k l) e ≡ k
  unfolding key set_key
  key-set_key small =
      let low = first r (6 * e) (6 * e + 1) (6 * e + 2) (k % 2 ^ 32) (k / 2 ^ 32) l (omega arith) (omega arith) (omega arith) (omega arith) in
      let high = second r (6 * e) (6 * e + 1) (6 * e + 2) (k % 2 ^ 32) (k / 2 ^ 32) l (omega arith) (omega arith) (omega arith) (omega arith) in
      rw (low, high) (omega arith)

  pub link-set_key : l < 2 ^ 32 → link (set_key r e k l) e ≡ l
  unfolding link set_key
  link-set_key = third r (6 * e) (6 * e + 1) (6 * e + 2) _ _ l (omega arith) (omega arith) (omega arith)

  module _ (j : ℕ) where
    pub key-set_key-other : j ≢ e → key (set_key r e k l) j ≡ key r j
    unfolding key
    key-set_key-other ne = rw (outside-key (6 * j) (λ q. omega (arith, q, ne)) (λ q. omega (arith, q)) (λ q. omega (arith, q)), outside-key (6 * j + 1) (λ q. omega (arith, q)) (λ q. omega (arith, q, ne)) (λ q. omega (arith, q)))

    pub link-set_key-other : j ≢ e → link (set_key r e k l) j ≡ link r j
    unfolding link
    link-set_key-other ne = outside-key (6 * j + 2) (λ q. omega (arith, q)) (λ q. omega (arith, q)) (λ q. omega (arith, q, ne))

    pub at-set_key : at (set_key r e k l) j ≡ at r j
    unfolding at
    at-set_key = outside-key (6 * j + 3) (λ q. omega (arith, q)) (λ q. omega (arith, q)) (λ q. omega (arith, q))

    pub len-set_key : len (set_key r e k l) j ≡ len r j
    unfolding len
    len-set_key = outside-key (6 * j + 4) (λ q. omega (arith, q)) (λ q. omega (arith, q)) (λ q. omega (arith, q))

    pub info-set_key : info (set_key r e k l) j ≡ info r j
    unfolding info
    info-set_key = outside-key (6 * j + 5) (λ q. omega (arith, q)) (λ q. omega (arith, q)) (λ q. omega (arith, q))

-- ---- writing a text and a number

module _ (r : List ℕ) (e a n i : ℕ) (fits : 24 * e + 24 ≤ length r) where
  pub length-set_text : length (set_text r e a n i) ≡ length r
  unfolding set_text
  length-set_text = three-long r (6 * e + 3) (6 * e + 4) (6 * e + 5) a n i (omega arith) (omega arith) (omega arith)

  outside-text : (m : ℕ) → m ≢ 6 * e + 3 → m ≢ 6 * e + 4 → m ≢ 6 * e + 5 → word (set_text r e a n i) m ≡ word r m
  unfolding set_text
  outside-text m = three-other r (6 * e + 3) (6 * e + 4) (6 * e + 5) a n i (omega arith) (omega arith) (omega arith) m

  pub at-set_text : a < 2 ^ 32 → at (set_text r e a n i) e ≡ a
  unfolding at set_text
  at-set_text = first r (6 * e + 3) (6 * e + 4) (6 * e + 5) a n i (omega arith) (omega arith) (omega arith)

  pub len-set_text : n < 2 ^ 32 → len (set_text r e a n i) e ≡ n
  unfolding len set_text
  len-set_text = second r (6 * e + 3) (6 * e + 4) (6 * e + 5) a n i (omega arith) (omega arith) (omega arith)

  pub info-set_text : i < 2 ^ 32 → info (set_text r e a n i) e ≡ i
  unfolding info set_text
  info-set_text = third r (6 * e + 3) (6 * e + 4) (6 * e + 5) a n i (omega arith) (omega arith) (omega arith)

  module _ (j : ℕ) where
    pub key-set_text : key (set_text r e a n i) j ≡ key r j
    unfolding key
    key-set_text = rw (outside-text (6 * j) (λ q. omega (arith, q)) (λ q. omega (arith, q)) (λ q. omega (arith, q)), outside-text (6 * j + 1) (λ q. omega (arith, q)) (λ q. omega (arith, q)) (λ q. omega (arith, q)))

    pub link-set_text : link (set_text r e a n i) j ≡ link r j
    unfolding link
    link-set_text = outside-text (6 * j + 2) (λ q. omega (arith, q)) (λ q. omega (arith, q)) (λ q. omega (arith, q))

    pub at-set_text-other : j ≢ e → at (set_text r e a n i) j ≡ at r j
    unfolding at
    at-set_text-other ne = outside-text (6 * j + 3) (λ q. omega (arith, q, ne)) (λ q. omega (arith, q)) (λ q. omega (arith, q))

    pub len-set_text-other : j ≢ e → len (set_text r e a n i) j ≡ len r j
    unfolding len
    len-set_text-other ne = outside-text (6 * j + 4) (λ q. omega (arith, q)) (λ q. omega (arith, q, ne)) (λ q. omega (arith, q))

    pub info-set_text-other : j ≢ e → info (set_text r e a n i) j ≡ info r j
    unfolding info
    info-set_text-other ne = outside-text (6 * j + 5) (λ q. omega (arith, q)) (λ q. omega (arith, q)) (λ q. omega (arith, q, ne))
