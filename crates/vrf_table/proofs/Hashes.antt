-- Laws for the hash functions: sums and products fit 64 bits, and a text is hashed word by word.
use Rattle.std.proofs.Common.{◌≡◌, ℕ, ◌+◌, ◌-◌, ◌*◌, ◌/◌, ◌%◌, ◌^◌, ◌<◌, ◌≤◌, List, length, get_or, take, drop, ap, ◌∙◌, mul-le-mul_right, add-one, arith, get_or-drop}
use Rattle.vrf_path.specs.Text.{four, eight}
use Rattle.vrf_words.specs.Words.{word}
use Rattle.vrf_table.specs.TextIndex.{turn, four_turns, hash_up_to, last_turns, text_hash}
use Rattle.vrf_table.proofs.Laws.Spelled.{part-following}

pub mixed-fits : (a b : ℕ) → a < 2 ^ 32 → b < 2 ^ 32 → a * 2654435761 + b * 40503 < 2 ^ 64
mixed-fits a b h k = omega arith

pub product-fits : (a b : ℕ) → a < 2 ^ 32 → b < 2 ^ 32 → a * b < 2 ^ 64
product-fits a b h k = omega (arith, mul-le-mul_right {m = a} {n = 2 ^ 32} b (omega arith))

-- the eight bytes from place i on are the first two words of the rest
eight-words : (t : List ℕ) (i : ℕ) → word (drop i t) 0 + 2 ^ 32 * word (drop i t) (0 + 1) ≡ eight t i
unfolding word four eight
eight-words t i =
    let at : (j k : ℕ) → i + j ≡ k → get_or (drop i t) j 0 ≡ get_or t k 0 = λ j k e. get_or-drop i t j 0 ∙ ap (λ (p : ℕ). get_or t p 0) e in
    rw (
      at 0 i (omega arith),
      at 1 (i + 1) (omega arith),
      at 2 (i + 2) (omega arith),
      at 3 (i + 3) (omega arith),
      at 4 (i + 4) (omega arith),
      at 5 (i + 4 + 1) (omega arith),
      at 6 (i + 4 + 2) (omega arith),
      at 7 (i + 4 + 3) (omega arith),
    )

pub eight-from : (t : List ℕ) (i : ℕ) → i ≤ length t → {r : ℕ}
    → r ≡ word (take (length t - i) (drop i t)) 0 + 2 ^ 32 * word (take (length t - i) (drop i t)) (0 + 1) → r ≡ eight t i
eight-from t i h e = e ∙ ap (λ (s : List ℕ). word s 0 + 2 ^ 32 * word s (0 + 1)) (part-following t i i (omega arith)) ∙ eight-words t i

-- the hash of a short text: four turns with the same word, starting from the length
pub hash-short : (t : List ℕ) (a b h i j k : ℕ) → length t < 8 → a ≡ four t 0 → b ≡ four t 4 → h ≡ turn (length t) (a + 4294967296 * b) → i ≡ turn h (a + 4294967296 * b) → j ≡ turn i (a + 4294967296 * b) → k ≡ turn j (a + 4294967296 * b) → k ≡ text_hash t
unfolding text_hash last_turns four_turns hash_up_to eight
hash-short t a b h i j k short ea eb eh ei ej ek =
    let none : (length t - 1) / 32 ≡ 0 = omega arith in
    let e32 : length t - 32 ≡ 0 = omega arith in
    let e24 : length t - 24 ≡ 0 = omega arith in
    let e16 : length t - 16 ≡ 0 = omega arith in
    let e8 : length t - 8 ≡ 0 = omega arith in
    let whole : length t % 2 ^ 32 ≡ length t = omega arith in
    rw (none, e32, e24, e16, e8, whole, ← ea, ← eb) cc

-- the hash of a long text: one step for each of its turns
module _ (t : List ℕ) where
  pub hash-start : length t < 2 ^ 32 → length t ≡ hash_up_to t 0
  unfolding hash_up_to
  hash-start h = omega arith

  pub hash-next : (i h n : ℕ) → h ≡ hash_up_to t i → n ≡ four_turns h t (32 * i) (32 * i + 8) (32 * i + 16) (32 * i + 24) → n ≡ hash_up_to t (i + 1)
  unfolding hash_up_to
  hash-next i h n eh en = rw (add-one, ← eh) en

  pub hash-end : (i h n : ℕ) → i ≡ (length t - 1) / 32 → h ≡ hash_up_to t i → n ≡ last_turns h t → n ≡ text_hash t
  unfolding text_hash
  hash-end i h n all eh en = rw (← all, ← eh) en
