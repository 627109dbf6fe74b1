-- A window opened in a slice is within it, and so are the readers of that window. At such a reader `sub_reader` finds the window of the next
-- n bytes exactly if the definition has n bytes left.
use Rattle.std.specs.Prelude.{◌≡◌, refl, ◌≢◌, List, Ok, ltb, take, drop}
use Rattle.std.proofs.Math.Path.{sym}
use Rattle.std.proofs.Common.{ap, ◌∙◌}
use Prim.Native.Nat.{ℕ, zero, suc, ◌+◌, ◌-◌, ◌*◌, ◌/◌, ◌<◌, ◌≤◌, min}
use native.Mathlib.Omega.{arith}
use Rattle.std.proofs.Math.ListN.{length}
use borrow.Author.Tests.{lt-ltb, le-ltb, ltb-false}
use Rattle.vrf_bitio.specs.Bits.{bytes_of}
use Rattle.vrf_bitio.specs.Reading.{Read, ok, refused, bind_read}
use Rattle.vrf_bitio.specs.Window.{rest, window, inner}
use Rattle.vrf_bitio.specs.Answers.{rest_of, Refuses, InnerAnswer}
use Rattle.vrf_bitio.proofs.Laws.Bits.{bytes_take, bytes_drop}
use Rattle.vrf_bitio.proofs.Laws.Window.{rest-length}
use Rattle.vrf_bitio.specs.declared.BitReader.{BitReader}
use Rattle.vrf_bitio.specs.declared.Refusal.{Refusal}
use Rattle.vrf_bitio.proofs.Laws.Cases.{by_cond, by_order, clash}
use Rattle.vrf_reader.specs.Inner.Within.{SameWindow, ReaderWithin}

-- a window that was opened is within the slice
pub opened-within : (first count : ℕ) (r : BitReader)
    → window r.«data».now first count ≡ ok (r.first, r.count) r.pos (rest_of r) → ReaderWithin r
unfolding window
opened-within first count r =
    let s = r.«data».now in
    let P : Read (ℕ × ℕ) → Type 0 = λ x. x ≡ ok (r.first, r.count) r.pos (rest_of r) → ReaderWithin r in
    by_cond P (ltb 268435456 (length s)) (λ _ e. clash (cc)) λ small.
    by_cond P (ltb (8 * length s - first) count) (λ _ e. clash (cc)) λ fits e.
    let place : ◌≡◌ {A = ℕ × ℕ} (r.first, r.count) (min first (8 * length s), count) = cc in
    record {
      inside = omega (arith, ap (λ (w : ℕ × ℕ). w.0) place, ap (λ (w : ℕ × ℕ). w.1) place, ltb-false (8 * length s - first) count fits);
      small = ltb-false 268435456 (length s) small;
    }

-- a reader of the same window
pub same-window : {r d : BitReader} → ReaderWithin r → SameWindow r d → ReaderWithin d
same-window within w = record { inside = rw (w.same, w.first, w.count) within.inside; small = rw w.same within.small }

-- ---- the window of the next n bytes

-- an empty window may start past the end
from_start : (s : List ℕ) (p e n : ℕ) → (n ≢ 0 → p ≤ e) → bytes_of s (min p e) n ≡ bytes_of s p n
unfolding bytes_of
from_start s p e zero h = refl
from_start s p e (suc n) h = let start : min p e ≡ p = omega (arith, h (λ z. omega arith)) in rw start

-- i is a reader of the window of the next n bytes at r, and d is the reader after them
pub record Inside (r : BitReader) (n : ℕ) (i d : BitReader) : Type 0 where
  pub enough : n ≤ length (rest_of r)
  pub start : i.pos ≡ 0
  pub bytes : rest_of i ≡ take n (rest_of r)
  pub next : d.pos ≡ r.pos + 8 * n
  pub left : rest_of d ≡ drop n (rest_of r)
  pub window : SameWindow r d

module _ {r : BitReader} (n : ℕ) (within : ReaderWithin r) where
  abbrev s : List ℕ
  s = r.«data».now

  abbrev asked : Read (ℕ × ℕ)
  asked = inner s r.first r.count (8 * n) r.pos

  lacks : r.count - r.pos < 8 * n → asked ≡ refused 10 r.pos (8 * n)
  unfolding inner
  lacks h = rw (lt-ltb (r.count - r.pos) (8 * n) h)

  module _ (enough : 8 * n ≤ r.count - r.pos) where
    found : asked ≡ ok (min (r.first + r.pos) (8 * length s), 8 * n) (r.pos + 8 * n) (rest s r.first r.count (r.pos + 8 * n))
    unfolding inner window bind_read
    found =
        rw (
          le-ltb (r.count - r.pos) (8 * n) enough,
          le-ltb 268435456 (length s) within.small,
          le-ltb (8 * length s - (r.first + r.pos)) (8 * n) (omega (arith, within.inside, enough)),
        )

    its-bytes : rest s (min (r.first + r.pos) (8 * length s)) (8 * n) 0 ≡ take n (rest_of r)
    unfolding rest
    its-bytes =
        let none : min (r.first + r.pos) (8 * length s) + 0 ≡ min (r.first + r.pos) (8 * length s) = omega arith in
        let all : (8 * n - 0) / 8 ≡ n = omega arith in
        rw (none, all)
        (from_start s (r.first + r.pos) (8 * length s) n (λ some. omega (arith, within.inside, enough))
        ∙ sym (bytes_take s (r.first + r.pos) n ((r.count - r.pos) / 8) (omega (arith, enough))))

    following-bytes : rest s r.first r.count (r.pos + 8 * n) ≡ drop n (rest_of r)
    unfolding rest
    following-bytes =
        let start : r.first + (r.pos + 8 * n) ≡ r.first + r.pos + 8 * n = omega arith in
        let few : (r.count - (r.pos + 8 * n)) / 8 ≡ (r.count - r.pos) / 8 - n = omega arith in
        rw (start, few) (sym (bytes_drop s (r.first + r.pos) n ((r.count - r.pos) / 8)))

    its-window : {i d : BitReader} → InnerAnswer r d asked (Ok i) → Inside r n i d
    its-window {i} {d} (g, (z, same)) =
        let e = sym found ∙ g.read in
        let place : ◌≡◌ {A = ℕ × ℕ} (i.first, i.count) (min (r.first + r.pos) (8 * length s), 8 * n) = cc in
        let following : rest_of d ≡ rest s r.first r.count (r.pos + 8 * n) = cc in
        record {
          enough = omega (arith, enough, rest-length s r.first r.count r.pos);
          start = z;
          bytes = rw (same, ap (λ (w : ℕ × ℕ). w.0) place, ap (λ (w : ℕ × ℕ). w.1) place, z) its-bytes;
          next = cc;
          left = following ∙ following-bytes;
          window = record { same = g.same; first = g.first; count = g.count };
        }

  -- the answers of `sub_reader`: that window, or 10 if fewer bytes are left
  pub sub-inside : {i d : BitReader} → InnerAnswer r d asked (Ok i) → Inside r n i d
  sub-inside a =
      by_order (8 * n) (r.count - r.pos) (λ h. its-window h a) (λ h. let both = sym (lacks h) ∙ a.0.read in clash (cc))

  pub sub-short : (q : Refusal) → Refuses asked q → (length (rest_of r) < n) × Refuses {A = ℕ × ℕ} (refused 10 r.pos (8 * n)) q
  sub-short q e =
      by_order (8 * n) (r.count - r.pos) (λ h. let both = sym (found h) ∙ e in clash (cc))
      λ h. (omega (arith, rest-length s r.first r.count r.pos), sym (lacks h) ∙ e)
