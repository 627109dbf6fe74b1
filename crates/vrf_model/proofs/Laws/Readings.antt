-- What a reading of bytes gives: numbers of their width, texts of at most 4,096 bytes of UTF-8, and a rest that is bytes.
use Rattle.std.specs.Prelude.{◌≡◌, refl, ◌||◌, List, [], ◌∷◌, ℕ, zero, suc, ◌+◌, ◌*◌, ◌/◌, ◌%◌, ◌^◌, ◌≤◌, ◌<◌, eqb, ltb, length, drop}
use Rattle.std.proofs.Math.Option.{Option, none, some}
use Rattle.std.proofs.Math.Nat.{pow-succ', one-le-pow}
use Rattle.std.proofs.Common.{mul-le-mul_left, arith, get_or-drop, ltb-false}
use Rattle.vrf_bitio.specs.Bits.{bytes_of, Bytes}
use Rattle.vrf_bitio.specs.Reading.{Read, ok, refused, Reader, return, position, bind_read, ◌>>=◌}
use Rattle.vrf_bitio.specs.Number.{byte, word32, int32, chunks, packed}
use Rattle.vrf_bitio.proofs.Laws.Bits.{bits-lt}
use Rattle.vrf_text.specs.Text.{IsText, text_bytes, checked, text8, text16, text_of, fstring}
use Rattle.vrf_bitio.proofs.Laws.Cases.{by_cond}
use Rattle.vrf_text.proofs.Laws.Text.{fstring-text}
use Rattle.vrf_model.specs.Names.{number}
use Rattle.vrf_model.specs.Lawful.{Is32}

-- ---- bytes

bytes_drop : (n : ℕ) (l : List ℕ) → Bytes l → Bytes (drop n l)
bytes_drop n l h i = rw get_or-drop (h (n + i))

pub bytes_of-bytes : (s : List ℕ) (p n : ℕ) → Bytes (bytes_of s p n)
unfolding bytes_of
bytes_of-bytes s p zero i = omega arith
bytes_of-bytes s p (suc n) zero = bits-lt s p 8
bytes_of-bytes s p (suc n) (suc i) = bytes_of-bytes s (p + 8) n i

-- ---- sequences of readings

-- the property that always holds
abbrev pub Any : {A : Type 0} → A → Type 0
Any a = Unit {0}

-- the reading is refused, or its value has P and the rest are bytes
abbrev pub Gives : {A : Type 0} → (A → Type 0) → Read A → Type 0
Gives P (ok a p m) = P a × Bytes m
Gives P (refused n a b) = Unit {0}

-- given bytes, the reading is refused, or its value has P and the rest are bytes
pub record ReadsBytes {A : Type 0} (P : A → Type 0) (r : Reader A) : Type 0 where
  pub gives : (pos : ℕ) (l : List ℕ) → Bytes l → Gives P (r pos l)

module _ {A : Type 0} {P : A → Type 0} where
  pub reads-return : (a : A) → P a → ReadsBytes P (return a)
  unfolding return
  reads-return a h = record { gives = λ pos l b. (h, b) }

  pub reads-refused : {n a b : ℕ} → ReadsBytes P (λ pos l. refused n a b)
  reads-refused = record { gives = λ pos l b. tt }

  pub reads_then : {B : Type 0} {Q : B → Type 0} {r : Reader A} {f : A → Reader B} → ReadsBytes P r → ((a : A) → P a → ReadsBytes Q (f a)) → ReadsBytes Q (r >>= f)
  unfolding ◌>>=◌ bind_read
  reads_then {B} {Q} {r} {f} h k = record { gives = λ pos l b. go (r pos l) (h.gives pos l b) }
    where
      go : (x : Read A) → Gives P x → Gives Q (bind_read f x)
      go (ok a p m) g = (k a g.0).gives p m g.1
      go (refused n a b) g = tt

-- ---- numbers

pub position-reads : ReadsBytes Any position
unfolding position
position-reads = record { gives = λ pos l b. (tt, b) }

pub byte_reads : ReadsBytes (λ n. n < 256) byte
unfolding byte
byte_reads = record { gives = λ pos. elim [ [] ↦ λ h. tt | b ∷ l ↦ λ h. (h 0, λ i. h (suc i)) ] }

pub word32-reads : ReadsBytes Is32 word32
unfolding word32
word32-reads = record { gives = go }
  where
    go : (pos : ℕ) (l : List ℕ) → Bytes l → Gives Is32 (word32 pos l)
    go pos [] h = tt
    go pos (a ∷ []) h = tt
    go pos (a ∷ b ∷ []) h = tt
    go pos (a ∷ b ∷ c ∷ []) h = tt
    go pos (a ∷ b ∷ c ∷ d ∷ l) h = (omega (arith, h 0, h 1, h 2, h 3), λ i. h (suc (suc (suc (suc i)))))

-- the value of the chunks so far is below the weight of the next chunk, and the chunks that may follow keep it below 2^32
chunks-reads : (start more weight low : ℕ) → low < weight → weight * (16 * 128 ^ more) ≤ 2 ^ 32 → ReadsBytes Is32 (chunks start more weight low)
unfolding chunks
chunks-reads start zero weight low small space =
    reads_then byte_reads λ b hb.
    by_cond (ReadsBytes Is32) (eqb (b % 2) 1) (λ _. reads-refused) λ _.
    by_cond (ReadsBytes Is32) (ltb 15 (b / 2)) (λ _. reads-refused)
    λ e. reads-return _ (omega (arith, mul-le-mul_left weight (ltb-false 15 (b / 2) e)))
chunks-reads start (suc more) weight low small space =
    reads_then byte_reads λ b hb.
    let top : b / 2 ≤ 127 = omega arith in
    let next : low + weight * (b / 2) < weight * 128 = omega (arith, mul-le-mul_left weight top) in
    let more-space : weight * 128 * (16 * 128 ^ more) ≤ 2 ^ 32 = omega (arith, rw (pow-succ' 128 more) at space) in
    by_cond (ReadsBytes Is32) (eqb (b % 2) 1) (λ _. chunks-reads start more (weight * 128) (low + weight * (b / 2)) next more-space)
    λ _. reads-return _ (omega (arith, mul-le-mul_left (weight * 128) (one-le-pow more 128 (omega arith))))

pub number-reads : ReadsBytes Is32 number
unfolding packed
number-reads = record { gives = λ pos l b. (chunks-reads pos 4 1 0 (omega arith) (omega arith)).gives pos l b }

pub int32-reads : ReadsBytes Any int32
unfolding int32
int32-reads = reads_then word32-reads λ w _. reads-return _ tt

-- ---- texts

text_bytes-reads : (start w n : ℕ) → ReadsBytes Any (text_bytes start w n)
unfolding text_bytes
text_bytes-reads start w n = record { gives = λ pos l b. by_cond (Gives Any) (ltb 1048576 n || ltb (length l) n) (λ _. tt) (λ _. (tt, bytes_drop n l b)) }

checked-reads : (start : ℕ) (o : Option (List ℕ)) → ReadsBytes Any (checked start o)
unfolding checked
checked-reads start none = record { gives = λ pos l b. tt }
checked-reads start (some t) = record { gives = λ pos l b. by_cond (Gives Any) (ltb 4096 (length t)) (λ _. tt) (λ _. (tt, b)) }

text_of-reads : (start w : ℕ) → ReadsBytes Any (text_of start w)
unfolding text_of text8 text16
text_of-reads start w =
    by_cond (ReadsBytes Any) (eqb w 0) (λ _. reads-return _ tt) λ _.
    by_cond (ReadsBytes Any) (ltb w (2 ^ 31)) (λ _. reads_then (text_bytes-reads start w w) λ b _. checked-reads start _)
    λ _. reads_then (text_bytes-reads start w _) λ b _. checked-reads start _

pub fstring-reads : ReadsBytes IsText fstring
unfolding fstring
fstring-reads = record { gives = λ pos l b. go pos l b (fstring pos l) refl (left.gives pos l b) }
  where
    left : ReadsBytes Any fstring
    left = reads_then position-reads λ start _. reads_then word32-reads λ w _. text_of-reads start w

    go : (pos : ℕ) (l : List ℕ) → Bytes l → (x : Read (List ℕ)) → fstring pos l ≡ x → Gives Any x → Gives IsText x
    go pos l b (ok t p m) e g = (fstring-text pos l b e, g.1)
    go pos l b (refused n a c) e g = tt
