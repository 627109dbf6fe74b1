-- 'Longer spellings are read; the writer uses the fewest bytes' (document 01, Bits): for a packed number that was read from any bytes, the
-- writer sends no more bytes than were read. This is a theorem for the reader of the definitions; no proof uses it.
use Rattle.std.specs.Prelude.{◌≡◌, refl, List, [], ◌∷◌, ℕ, zero, suc, ◌+◌, ◌-◌, ◌*◌, ◌/◌, ◌%◌, ◌<◌, ◌≤◌, length, get_or}
use Rattle.std.proofs.Common.{◌∙◌, sym, arith, lt-ltb, le-ltb}
use Rattle.std.proofs.Math.Decide.{dec_lt}
use Rattle.vrf_bitio.specs.Bits.{bytes_of, Bytes}
use Rattle.vrf_bitio.proofs.Laws.Cases.{clash}
use Rattle.vrf_bitio.specs.Reading.{ok}
use Rattle.vrf_bitio.specs.Window.{rest}
use Rattle.vrf_bitio.specs.Number.{byte, chunks, packed, encode_chunks, encode_packed, TakesAtLeast}
use Rattle.vrf_bitio.specs.Answers.{rest_of, read_here, Gave}
use Rattle.vrf_bitio.proofs.Laws.Bits.{bits-lt}
use Rattle.vrf_bitio.proofs.Laws.Number.{chunks-lacks, last-runs-on, last-too-large, last-ends, chunk-ends, chunk-continues}
use Rattle.vrf_bitio.specs.declared.BitReader.{BitReader}

-- chunks added weight * n to the value; the writer's bytes for n are no more than the bytes that were read
record Adds (more weight low pos : ℕ) (l : List ℕ) (v p : ℕ) (m : List ℕ) : Type 0 where
  n : ℕ
  value : v ≡ low + weight * n
  spends : TakesAtLeast (length (encode_chunks more n)) pos l p m

-- a number below 128 is sent as one byte
one_byte : (more n : ℕ) → n < 128 → length (encode_chunks more n) ≡ 1
unfolding encode_chunks
one_byte zero n h = refl
one_byte (suc more) n h = rw lt-ltb

-- one more low chunk adds at most one byte
one-more : (more n k : ℕ) → k < 128 → length (encode_chunks (suc more) (k + 128 * n)) ≤ suc (length (encode_chunks more n))
unfolding encode_chunks
one-more more n k h = elim (dec_lt (k + 128 * n) 128) [ yes few ↦ rw lt-ltb (omega arith) | no many ↦ longer (omega arith) ]
  where
    longer : 128 ≤ k + 128 * n → length (encode_chunks (suc more) (k + 128 * n)) ≤ suc (length (encode_chunks more n))
    longer many =
        let upper : (k + 128 * n) / 128 ≡ n = omega arith in
        rw (le-ltb, upper) (omega arith)

-- what a chunk adds if it is the last one, and if another follows
module _ (weight low pos b v p : ℕ) (l m : List ℕ) where
  ends : (more : ℕ) → length (encode_chunks more (b / 2)) ≡ 1 → ok (low + weight * (b / 2)) (pos + 8) l ≡ ok v p m → Adds more weight low pos (b ∷ l) v p m
  ends more one e =
      let value : v ≡ low + weight * (b / 2) = cc in
      let place : p ≡ pos + 8 = cc in
      let same : l ≡ m = cc in
      record { n = b / 2; value = value; spends = record { taken = 1; place = omega arith; left = rw same (omega arith); fewest = omega arith } }

  more-chunks : (more : ℕ) → b < 256 → Adds more (weight * 128) (low + weight * (b / 2)) (pos + 8) l v p m → Adds (suc more) weight low pos (b ∷ l) v p m
  more-chunks more h a =
      let k : ℕ = a.spends.taken in
      record { n = b / 2 + 128 * a.n; value = omega (arith, a.value); spends = record { taken = suc k; place = omega (arith, a.spends.place); left = omega (arith, a.spends.left); fewest = omega (arith, one-more more a.n (b / 2) (omega arith), a.spends.fewest) } }

-- the writer's bytes for what the chunks add are no more than the bytes that were read, whichever those are
chunks-fewest : (more start weight low pos : ℕ) (l : List ℕ) {v p : ℕ} {m : List ℕ} → Bytes l → chunks start more weight low pos l ≡ ok v p m → Adds more weight low pos l v p m
unfolding byte
chunks-fewest more start weight low pos [] h e = clash (cc (chunks-lacks start weight low pos [] more refl))
chunks-fewest zero start weight low pos (b ∷ l) {v} {p} {m} h e = elim (dec_lt 0 (b % 2)) [ yes odd ↦ runs_on (omega arith) | no even ↦ elim (dec_lt 15 (b / 2)) [ yes big ↦ too_large (omega arith) big | no small ↦ fits (omega arith) (omega arith) ] ]
  where
    runs_on : b % 2 ≡ 1 → Adds zero weight low pos (b ∷ l) v p m
    runs_on odd = clash (cc (last-runs-on start weight low pos (b ∷ l) refl odd))

    too_large : (b % 2 ≡ 1 → ⊥) → 15 < b / 2 → Adds zero weight low pos (b ∷ l) v p m
    too_large even big = clash (cc (last-too-large start weight low pos (b ∷ l) refl even big))

    fits : (b % 2 ≡ 1 → ⊥) → b / 2 ≤ 15 → Adds zero weight low pos (b ∷ l) v p m
    fits even small = ends weight low pos b v p l m zero (one_byte zero (b / 2) (omega arith)) (sym (last-ends start weight low pos (b ∷ l) refl even small) ∙ e)
chunks-fewest (suc more) start weight low pos (b ∷ l) {v} {p} {m} h e = elim (dec_lt 0 (b % 2)) [
  | yes odd ↦
      let goes : b % 2 ≡ 0 → ⊥ = omega arith in
      more-chunks weight low pos b v p l m more (h 0) (chunks-fewest more start (weight * 128) (low + weight * (b / 2)) (pos + 8) l (λ i. h (suc i)) (sym (chunk-continues start weight low pos (b ∷ l) refl more goes) ∙ e))
  | no even ↦ ends weight low pos b v p l m (suc more) (one_byte (suc more) (b / 2) (omega (arith, h 0))) (sym (chunk-ends start weight low pos (b ∷ l) refl more (omega arith)) ∙ e)
]

-- The theorem: a packed number is read from at least as many bytes as the writer sends for it.
pub packed-fewest : (pos : ℕ) (l : List ℕ) {v p : ℕ} {m : List ℕ} → Bytes l → packed pos l ≡ ok v p m → TakesAtLeast (length (encode_packed v)) pos l p m
unfolding packed encode_packed
packed-fewest pos l {v} {p} {m} h e = value (chunks-fewest 4 pos 1 0 pos l h e)
  where
    value : Adds 4 1 0 pos l v p m → TakesAtLeast (length (encode_chunks 4 v)) pos l p m
    value a =
        let same : v ≡ a.n = omega (arith, a.value) in
        rw same a.spends

bytes_below : (s : List ℕ) (p n i : ℕ) → get_or (bytes_of s p n) i 0 < 256
unfolding bytes_of
bytes_below s p zero i = omega arith
bytes_below s p (suc n) zero = bits-lt s p 8
bytes_below s p (suc n) (suc i) = bytes_below s (p + 8) n i

-- `packed-fewest` for a packed number that was read in a window; what is left in a window are bytes.
pub gave-fewest : (r : BitReader) {v : ℕ} {d : BitReader} → Gave r (read_here r packed) v d → TakesAtLeast (length (encode_packed v)) r.pos (rest_of r) d.pos (rest_of d)
unfolding rest
gave-fewest r g = packed-fewest r.pos (rest_of r) (bytes_below r.«data».now (r.first + r.pos) ((r.count - r.pos) / 8)) g.read
