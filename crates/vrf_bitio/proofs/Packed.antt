-- The loop of `read_int_packed`: after k bytes of a packed number, reading the rest yields what reading the whole number yields.
use mathlib.Core.Path.{◌≡◌, refl, ◌∙◌}
use Prim.Native.Nat.{ℕ, suc, ◌+◌, ◌-◌, ◌*◌, ◌/◌, ◌%◌, ◌^◌, ◌<◌, ◌≤◌}
use native.Mathlib.Nat.{mul-le-mul_left}
use native.Mathlib.Omega.{arith}
use lib.Pow.{pow_mono, pow-add}
use Rattle.vrf_bitio.specs.Reading.{refused}
use Rattle.vrf_bitio.specs.Number.{byte, packed, chunks}
use Rattle.vrf_bitio.specs.Answers.{rest_of, read_here, Gave}
use Rattle.vrf_bitio.proofs.Laws.Number.{chunks-lacks, chunk-ends, chunk-continues}
use Rattle.vrf_bitio.specs.declared.BitReader.{BitReader}

-- r is the reader where the number began, at is the reader of its next byte
pub record SoFar (r at : BitReader) (low k : ℕ) : Type 0 where
  pub few : k ≤ 4
  pub small : low < 2 ^ (7 * k)
  pub bytes : at.«data» ≡ r.«data»
  pub first : at.first ≡ r.first
  pub count : at.count ≡ r.count
  pub same : read_here r packed ≡ chunks r.pos (4 - k) (2 ^ (7 * k)) low at.pos (rest_of at)

pub started : (r : BitReader) → SoFar r r 0 0
unfolding packed
started r = record { few = omega arith; small = omega arith; bytes = refl; first = refl; count = refl; same = refl }

-- a chunk after k others is at most 127 times its weight
chunk-le : (k b : ℕ) → b < 256 → 2 ^ (7 * k) * (b / 2) ≤ 2 ^ (7 * k) * 127
chunk-le k b h = mul-le-mul_left (2 ^ (7 * k)) (omega arith)

-- in the loop the value with this chunk added fits 32 bits
pub chunk-fits : (low k b : ℕ) → k < 4 → low < 2 ^ (7 * k) → b < 256 → (k ≤ 4) × (low < 2 ^ (7 * k)) × (2 ^ (7 * k) * (b / 2) < 2 ^ 32 - low)
chunk-fits low k b h hl hb =
    let p : 2 ^ (7 * k) ≤ 2 ^ 21 = pow_mono {i = 7 * k} {j = 21} (omega arith) in
    (omega arith, hl, omega (arith, chunk-le k b hb))

module _ (r at : BitReader) (low k : ℕ) (i : SoFar r at low k) where
  pub ended : {n a b : ℕ} → read_here at byte ≡ refused n a b → read_here r packed ≡ refused n a b
  ended e = i.same ∙ chunks-lacks r.pos (2 ^ (7 * k)) low at.pos (rest_of at) (4 - k) e

  module _ (h : k < 4) (b v : ℕ) (d : BitReader) (g : Gave at (read_here at byte) b d) (e : v ≡ low + 2 ^ (7 * k) * (b / 2)) where
    more : 4 - k ≡ suc (3 - k)
    more = omega arith

    pub last : b % 2 ≡ 0 → Gave r (read_here r packed) v d
    last even = record {
      read = i.same ∙ rw (more, e) (chunk-ends r.pos (2 ^ (7 * k)) low at.pos (rest_of at) g.read (3 - k) even);
      same = g.same ∙ i.bytes;
      first = g.first ∙ i.first;
      count = g.count ∙ i.count;
    }

    pub next : b < 256 → (b % 2 ≡ 0 → ⊥) → SoFar r d v (k + 1)
    next hb odd = record {
      few = omega arith;
      small = rw (e, weight) (omega (arith, chunk-le k b hb, i.small));
      bytes = g.same ∙ i.bytes;
      first = g.first ∙ i.first;
      count = g.count ∙ i.count;
      same = i.same ∙ rw (more, e, left, weight) (chunk-continues r.pos (2 ^ (7 * k)) low at.pos (rest_of at) g.read (3 - k) odd);
    }
      where
        left : 4 - (k + 1) ≡ 3 - k
        left = omega arith

        seven : 7 * (k + 1) ≡ 7 * k + 7
        seven = omega arith

        weight : 2 ^ (7 * (k + 1)) ≡ 2 ^ (7 * k) * 128
        weight = rw seven (pow-add 2 (7 * k) 7)
