-- Laws for `put_part`: a text copied piece by piece, where a piece can begin before the end of the bytes already written.
use mathlib.Core.Path.{◌≡◌, refl, sym, ap, ◌∙◌}
use mathlib.Core.List.{List}
use Prim.Native.Nat.{ℕ, ◌+◌, ◌-◌, ◌<◌, ◌≤◌}
use native.Mathlib.Decide.{dec_lt}
use native.Mathlib.Omega.{arith}
use lib.ListN.{length, get_or}
use lib.Seq.{ext_get_or}
use Rattle.vrf_bitio.specs.Pasted.{pasted}
use Rattle.vrf_bitio.proofs.Laws.Pasted.{pasted-nil, pasted_length, Outside, before, following, get_d-pasted-out, get_d-pasted-in}
use Rattle.vrf_words.specs.Words.{part}
use Rattle.vrf_words.proofs.Laws.Words.{length_part, get_d_part, whole_part}

-- ---- the n bytes of t from byte a on, written into l from byte `at` on

module _ (l t : List ℕ) (at a n : ℕ) (inside : a + n ≤ length t) (fits : at + n ≤ length l) where
  space : at + length (part t a n) ≤ length l
  space = omega (arith, length_part t a n inside)

  pub as_long : length (pasted l at (part t a n)) ≡ length l
  as_long = pasted_length (part t a n) l at space

  written : (d i : ℕ) → d < n → i ≡ at + d → get_or (pasted l at (part t a n)) i 0 ≡ get_or t (a + d) 0
  written d i h e = rw e (get_d-pasted-in (part t a n) l at d space (omega (arith, length_part t a n inside)) ∙ get_d_part t a n d h)

  unwritten : (i : ℕ) → Outside at (at + n) i → get_or (pasted l at (part t a n)) i 0 ≡ get_or l i 0
  unwritten i o = get_d-pasted-out (part t a n) l at i space (rw (length_part t a n inside) o)

-- ---- after the first j bytes are written: a piece that begins at byte j or earlier and ends at byte j or later

module _ (l t : List ℕ) (at k j n : ℕ) (hk : k ≤ j) (hj : j ≤ k + n) (ht : k + n ≤ length t) (hl : at + length t ≤ length l) where
  abbrev so_far : List ℕ
  so_far = pasted l at (part t 0 j)

  long : at + k + n ≤ length so_far
  long = omega (arith, as_long l t at 0 j (omega arith) (omega arith))

  place : (i : ℕ) → get_or (pasted so_far (at + k) (part t k n)) i 0 ≡ get_or (pasted l at (part t 0 (k + n))) i 0
  place i =
      let old = unwritten l t at 0 j (omega arith) (omega arith) in
      let kept = unwritten so_far t (at + k) k n ht long in
      let all = unwritten l t at 0 (k + n) (omega arith) (omega arith) in
      let due : (d : ℕ) → d < k + n → i ≡ at + d → get_or (pasted l at (part t 0 (k + n))) i 0 ≡ get_or t (0 + d) 0
      = λ d. written l t at 0 (k + n) (omega arith) (omega arith) d i in
      elim (dec_lt i at) [
        | yes h ↦ kept i (before (omega arith)) ∙ old i (before h) ∙ sym (all i (before h))
        | no h ↦ elim (dec_lt i (at + k)) [
          | yes g ↦ kept i (before g) ∙ written l t at 0 j (omega arith) (omega arith) (i - at) i (omega arith) (omega arith) ∙ sym (due (i - at) (omega arith) (omega arith))
          | no g ↦ elim (dec_lt i (at + k + n)) [
            | yes f ↦
                let same : k + (i - (at + k)) ≡ 0 + (i - at) = omega arith in
                written so_far t (at + k) k n ht long (i - (at + k)) i (omega arith) (omega arith) ∙ ap (λ (x : ℕ). get_or t x 0) same ∙ sym (due (i - at) (omega arith) (omega arith))
            | no f ↦ kept i (following (omega arith)) ∙ old i (following (omega arith)) ∙ sym (all i (following (omega arith)))
          ]
        ]
      ]

  pub part-more : pasted so_far (at + k) (part t k n) ≡ pasted l at (part t 0 (k + n))
  part-more =
      ext_get_or 0 (pasted so_far (at + k) (part t k n)) (pasted l at (part t 0 (k + n)))
      (as_long so_far t (at + k) k n ht long ∙ as_long l t at 0 j (omega arith) (omega arith) ∙ sym (as_long l t at 0 (k + n) (omega arith) (omega arith)))
      (λ i lt. place i)

-- ---- what holds after each piece: the first k bytes are written

pub record PartCopied (l m t : List ℕ) (at k : ℕ) : Type 0 where
  pub few : k ≤ length t
  pub long : length m ≡ length l
  pub same : m ≡ pasted l at (part t 0 k)

pub copy_start : (l t : List ℕ) (at : ℕ) → PartCopied l l t at 0
unfolding part
copy_start l t at = record { few = omega arith; long = refl; same = sym (pasted-nil l at) }

module _ {l m t : List ℕ} {at j : ℕ} (c : PartCopied l m t at j) where
  pub copy_step : {x : List ℕ} (k n : ℕ) → x ≡ pasted m (at + k) (part t k n) → at + length t ≤ length l → k ≤ j → j ≤ k + n → k + n ≤ length t → PartCopied l x t at (k + n)
  copy_step k n e space hk hj h =
      record {
        few = h;
        long = rw e (as_long m t (at + k) k n h (omega (arith, c.long)) ∙ c.long);
        same = rw (e, c.same) (part-more l t at k j n hk hj h space);
      }

  pub copy-end : j ≡ length t → m ≡ pasted l at t
  copy-end e = c.same ∙ ap (λ (n : ℕ). pasted l at (part t 0 n)) e ∙ ap (pasted l at) (whole_part t)
