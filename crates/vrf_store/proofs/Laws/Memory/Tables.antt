-- Laws about the memory of a table, its rows and the heads after them: adding a row, and lending the table to a function.
use Rattle.std.specs.Prelude.{◌≡◌, ℕ, suc, ◌+◌, ◌-◌, ◌*◌, ◌/◌, ◌%◌, ◌^◌, ◌<◌, ◌≤◌, List, ◌++◌, length, take, drop, refl}
use Rattle.std.proofs.Math.Path.{sym, ap}
use Rattle.std.proofs.Common.{◌∙◌, append_assoc, add-zero, length-take, drop-drop, take_all}
use native.Mathlib.Omega.{arith}
use Rattle.std.proofs.Math.ListN.{length-drop, take-append-drop}
use Rattle.std.proofs.lemmas.List.{take-append-le}
use Rattle.std.proofs.Math.Seq.{drop-append-le, take-append-add, drop-append-add}
use Rattle.vrf_bitio.specs.Number.{low_bytes}
use Rattle.vrf_bitio.specs.Pasted.{pasted}
use Rattle.vrf_bitio.proofs.Laws.Number.{low_bytes-length}
use Rattle.vrf_words.specs.Words.{word, part}
use Rattle.vrf_words.specs.Inner.Words.{set_word}
use Rattle.vrf_words.proofs.Laws.Words.{length_part, length-set_word, word-part, part-part}
use Rattle.vrf_table.specs.Table.{key_bucket, key_start}
use Rattle.vrf_table.specs.Inner.Table.{set_key, set_text}
use Rattle.vrf_table.proofs.Laws.Table.{key_bucket-lt, length-set_key, length-set_text}
use Rattle.vrf_store.specs.Store.{words}
use Rattle.vrf_store.specs.Inner.Memory.{push_row, pushed}

-- ---- writing a word of the rows or of the heads

module _ (r h : List ℕ) where
  pub front : (i v : ℕ) → 4 * i + 4 ≤ length r → set_word (r ++ h) i v ≡ set_word r i v ++ h
  unfolding set_word pasted
  front i v k =
      let fits : 4 * i + length (low_bytes 4 v) ≤ length r = rw (low_bytes-length 4 v) k in
      rw (take-append-le (4 * i) r h (omega (arith, k)), drop-append-le (4 * i + length (low_bytes 4 v)) r h fits) (simp append_assoc)

  pub back : (q i j v : ℕ) → length r ≡ 4 * q → i ≡ q + j → set_word (r ++ h) i v ≡ r ++ set_word h j v
  unfolding set_word pasted
  back q i j v e p =
      let at : 4 * i ≡ length r + 4 * j = omega (arith, e, p) in
      let to : length r + 4 * j + length (low_bytes 4 v) ≡ length r + (4 * j + length (low_bytes 4 v)) = omega arith in
      rw (at, to, take-append-add r h (4 * j), drop-append-add r h (4 * j + length (low_bytes 4 v))) (simp append_assoc)

three-front : (r h : List ℕ) (x y z u v w : ℕ) → 4 * x + 4 ≤ length r → 4 * y + 4 ≤ length r → 4 * z + 4 ≤ length r → set_word (set_word (set_word (r ++ h) x u) y v) z w ≡ set_word (set_word (set_word r x u) y v) z w ++ h
three-front r h x y z u v w kx ky kz =
    let ly : 4 * y + 4 ≤ length (set_word r x u) = rw (length-set_word r x u kx) ky in
    let lz : 4 * z + 4 ≤ length (set_word (set_word r x u) y v) = rw (length-set_word (set_word r x u) y v ly, length-set_word r x u kx) kz in
    ap (λ (s : List ℕ). set_word (set_word s y v) z w) (front r h x u kx) ∙ ap (λ (s : List ℕ). set_word s z w) (front (set_word r x u) h y v ly) ∙ front (set_word (set_word r x u) y v) h z w lz

module _ (r h : List ℕ) (e : ℕ) (fits : 24 * e + 24 ≤ length r) where
  front-text : (a n i : ℕ) → set_text (r ++ h) e a n i ≡ set_text r e a n i ++ h
  unfolding set_text
  front-text a n i = three-front r h (6 * e + 3) (6 * e + 4) (6 * e + 5) a n i (omega (arith, fits)) (omega (arith, fits)) (omega (arith, fits))

  front-key : (k l : ℕ) → set_key (r ++ h) e k l ≡ set_key r e k l ++ h
  unfolding set_key
  front-key k l = three-front r h (6 * e) (6 * e + 1) (6 * e + 2) (k % 2 ^ 32) (k / 2 ^ 32) l (omega (arith, fits)) (omega (arith, fits)) (omega (arith, fits))

-- ---- writing the memory of a table

module _ (t : List ℕ) (cap b : ℕ) (long : length t ≡ 24 * cap + 4 * b) where
  abbrev rows : List ℕ
  rows = part t 0 (24 * cap)

  abbrev heads : List ℕ
  heads = part t (24 * cap) (4 * b)

  rows_long : length rows ≡ 24 * cap
  rows_long = length_part t 0 (24 * cap) (omega (arith, long))

  pub halves : t ≡ rows ++ heads
  unfolding part
  halves = sym (ap (λ (z : List ℕ). take (24 * cap) t ++ z) (take_all (4 * b) (drop (24 * cap) t) (omega (arith, length-drop (24 * cap) t, long))) ∙ take-append-drop (24 * cap) t)

  module _ (n : ℕ) (few : n < cap) where
    in_rows : 24 * n + 24 ≤ length rows
    in_rows = omega (arith, few, rows_long)

    -- a row with a new text
    pub text-by : (at len info : ℕ) → set_text t n at len info ≡ set_text rows n at len info ++ heads
    text-by at len info = ap (λ (z : List ℕ). set_text z n at len info) halves ∙ front-text rows heads n in_rows at len info

    -- one more row
    module _ (some : 0 < b) (k at len info : ℕ) where
      abbrev bucket : ℕ
      bucket = key_bucket b k

      head-by : word t (6 * cap + bucket) ≡ key_start heads b k
      unfolding key_start
      head-by =
          let e : 4 * (6 * cap) ≡ 24 * cap = omega arith in
          let inside : 4 * bucket + 4 ≤ 4 * b = omega (arith, key_bucket-lt b k some) in
          sym (word-part t (6 * cap) (4 * b) bucket inside) ∙ ap (λ (a : ℕ). word (part t a (4 * b)) bucket) e

      pub pushed-by : set_word (set_key (set_text t n at len info) n k (word t (6 * cap + bucket))) (6 * cap + bucket) (suc n) ≡ pushed t cap b n k at len info
      unfolding pushed push_row
      pushed-by =
          let r₁ : List ℕ = set_text rows n at len info in
          let long₁ : length r₁ ≡ length rows = length-set_text rows n at len info in_rows in
          let fits : 24 * n + 24 ≤ length r₁ = omega (arith, in_rows, long₁) in
          let p : ℕ = key_start heads b k in
          let long₂ : length (set_key r₁ n k p) ≡ 4 * (6 * cap) = length-set_key r₁ n k p fits ∙ omega (arith, long₁, rows_long) in
          rw (head-by, text-by at len info, front-key r₁ heads n fits k p) (back (set_key r₁ n k p) heads (6 * cap) (6 * cap + bucket) bucket (suc n) long₂ refl)

-- ---- lending a part of a memory

-- the bytes of m from a to e, and m with v in their place
abbrev pub lent_part : List ℕ → ℕ → ℕ → List ℕ
lent_part m a e = take (e - a) (drop a m)

abbrev pub lent_to : List ℕ → ℕ → ℕ → List ℕ → List ℕ
lent_to m a e v = take a m ++ (v ++ drop (e - a) (drop a m))

-- a function that was lent these bytes turned them into v, which is f of them
pub record Lent (m : List ℕ) (a e : ℕ) (f : List ℕ → List ℕ) (v : List ℕ) : Type 0 where
  pub long : length v ≡ length (lent_part m a e)
  pub made : v ≡ f (lent_part m a e)

pub lent : {m v : List ℕ} {a e : ℕ} {f : List ℕ → List ℕ} (n : ℕ) → Lent m a e f v → e ≡ a + n → e ≤ length m → lent_to m a e v ≡ pasted m a (f (part m a n))
unfolding pasted part
lent {m} {v} {a} {e} {f} n h q fits =
    let d : e - a ≡ n = omega (arith, q) in
    let made : f (take n (drop a m)) ≡ v = ap (λ (k : ℕ). f (take k (drop a m))) (sym d) ∙ sym h.made in
    let past : a + (e - a) ≡ a + length v = omega (arith, q, fits, h.long, length-take (e - a) (drop a m), length-drop a m) in
    rw (made, drop-drop (e - a) a m, past)

-- ---- a table in the memory of a book

-- where a table of cap rows and b heads ends, if it begins at byte a
abbrev pub table_end : ℕ → ℕ → ℕ → ℕ
table_end a cap b = a + 24 * cap + 4 * b

-- the table of cap rows and b heads that begins at word i
module _ (m : List ℕ) (i cap b : ℕ) (fits : 4 * i + 24 * cap + 4 * b ≤ length m) where
  abbrev table : List ℕ
  table = part m (4 * i) (24 * cap + 4 * b)

  pub rows_words : part table 0 (24 * cap) ≡ words m i (6 * cap)
  unfolding words
  rows_words =
      let n : 24 * cap ≡ 4 * (6 * cap) = omega arith in
      part-part m (4 * i) (24 * cap + 4 * b) 0 (24 * cap) (omega arith) ∙ rw (add-zero, n)

  heads-words : part table (24 * cap) (4 * b) ≡ words m (i + 6 * cap) b
  unfolding words
  heads-words =
      let n : 4 * i + 24 * cap ≡ 4 * (i + 6 * cap) = omega arith in
      part-part m (4 * i) (24 * cap + 4 * b) (24 * cap) (4 * b) (omega arith) ∙ rw n

  pub pushed-words : (n k at len info : ℕ) → pushed table cap b n k at len info ≡ push_row (words m i (6 * cap)) n k (key_start (words m (i + 6 * cap) b) b k) at len info ++ set_word (words m (i + 6 * cap) b) (key_bucket b k) (suc n)
  unfolding pushed
  pushed-words n k at len info = rw (rows_words, heads-words)

  pub text-words : (n : ℕ) → n < cap → (at len info : ℕ) → set_text table n at len info ≡ set_text (words m i (6 * cap)) n at len info ++ words m (i + 6 * cap) b
  text-words n few at len info =
      text-by table cap b (length_part m (4 * i) (24 * cap + 4 * b) (omega (arith, fits))) n few at len info ∙ rw (rows_words, heads-words)

  pub row_words : (n : ℕ) → n < cap → (k p at len info : ℕ) → push_row table n k p at len info ≡ push_row (words m i (6 * cap)) n k p at len info ++ words m (i + 6 * cap) b
  unfolding push_row
  row_words n few k p at len info =
      let long = rows_long table cap b (length_part m (4 * i) (24 * cap + 4 * b) (omega (arith, fits))) in
      let r = part table 0 (24 * cap) in
      let space : 24 * n + 24 ≤ length r = omega (arith, few, long) in
      let fits-key : 24 * n + 24 ≤ length (set_text r n at len info) = omega (arith, space, length-set_text r n at len info space) in
      ap (λ (z : List ℕ). set_key z n k p) (text-by table cap b (length_part m (4 * i) (24 * cap + 4 * b) (omega (arith, fits))) n few at len info)
      ∙ front-key (set_text r n at len info) (part table (24 * cap) (4 * b)) n fits-key k p ∙ rw (rows_words, heads-words)
