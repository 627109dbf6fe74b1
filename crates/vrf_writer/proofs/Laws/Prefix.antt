-- Functions that write one after another: each is lent the part of the slice that those before it left free.
use Rattle.std.specs.Prelude.{◌≡◌, ℕ, ◌+◌, ◌-◌, ◌≤◌, List, [], ◌∷◌, ◌++◌, length, take, drop, slice_set, refl}
use Rattle.std.proofs.Common.{sym, ap, subst, ◌∙◌, append_assoc, append-nil, zero-add, arith, length-append, length-drop, drop_of_length-le, drop-drop, length-take-le}
use Rattle.std.proofs.Math.Seq.{drop-append_seam}
use Rattle.vrf_bitio.specs.Pasted.{pasted}
use Rattle.vrf_bitio.proofs.Laws.Pasted.{pasted-nil, pasted-cons, pasted-front, pasted_length, pasted-append}
use Rattle.vrf_store.proofs.Laws.Check.Steps.{rest_part}
use Rattle.vrf_writer.specs.Inner.Prefix.{WritesPrefix}

-- the part of a slice that a writer is lent, from place `at` on; and the whole slice after the writer has left that part as ys
abbrev pub lent_from : List ℕ → ℕ → List ℕ
lent_from xs at = take (length xs - at) (drop at xs)

abbrev pub back_from : List ℕ → ℕ → List ℕ → List ℕ
back_from xs at ys = take at xs ++ (ys ++ drop (length xs - at) (drop at xs))

-- A code is partly written, and there is space for all of it. Its first `at` bytes are at the front, and `rest` is not yet written.
pub record PartlyWritten (code before after : List ℕ) (at : ℕ) (rest : List ℕ) : Type 0 where
  pub front : List ℕ
  pub split : front ++ rest ≡ code
  pub bytes : after ≡ pasted before 0 front
  pub count : at ≡ length front
  pub fits : length code ≤ length before

-- ---- a part of a slice, from a place on, lent to a writer

-- what the writer left is there afterwards
pub back : (xs v : List ℕ) (a : ℕ) {ys : List ℕ} → ys ≡ pasted (lent_from xs a) 0 v → back_from xs a ys ≡ pasted xs a v
unfolding pasted
back xs v a {ys} e =
    let none : drop (length xs - a) (drop a xs) ≡ [] = drop_of_length-le (drop a xs) {i = length xs - a} (omega (arith, length-drop a xs)) in
    let written : ys ≡ v ++ drop (a + length v) xs = e ∙ rw (rest_part xs a, pasted-front (drop a xs) v, drop-drop (length v) a xs) in
    rw (none, append-nil ys, written)

-- a code at the front that is written later than the code that follows it
pub pasted-last : (l w v : List ℕ) → length w ≤ length l → pasted (pasted l (length w) v) 0 w ≡ pasted l 0 (w ++ v)
unfolding pasted
pasted-last l w v fits =
    let seam : length (take (length w) l) ≡ length w = length-take-le (length w) l fits in
    let following : drop (length w) (take (length w) l ++ (v ++ drop (length w + length v) l)) ≡ v ++ drop (length w + length v) l = rw seam at (drop-append_seam (take (length w) l) (v ++ drop (length w + length v) l)) in
    rw (zero-add, zero-add, length-append w v, following, append_assoc w v (drop (length w + length v) l))

-- ---- equal codes

pub writes_as : {c d l xs : List ℕ} {n : ℕ} → c ≡ d → WritesPrefix c l xs n → WritesPrefix d l xs n
writes_as {l = l} {xs = xs} {n = n} e p = subst (λ (x : List ℕ). WritesPrefix x l xs n) e p

pub fits-as : {c d : List ℕ} {k : ℕ} → c ≡ d → length d ≤ k → length c ≤ k
fits-as e h = omega (arith, h, ap length e)

-- ---- a partly written code

pub under-start : {code rest l : List ℕ} → code ≡ rest → length code ≤ length l → PartlyWritten code l l 0 rest
under-start {l = l} e h = record { front = []; split = sym e; bytes = sym (pasted-nil l 0); count = refl; fits = h }

module _ {code l xs rest : List ℕ} {at : ℕ} (u : PartlyWritten code l xs at rest) where
  pub under-long : length xs ≡ length l
  under-long = ap length u.bytes ∙ pasted_length u.front l 0 (omega (arith, u.fits, ap length u.split, length-append u.front rest))

  -- there is space for what is not yet written
  pub under-space : at + length rest ≤ length xs
  under-space = omega (arith, under-long, u.fits, u.count, ap length u.split, length-append u.front rest)

  pub under-end : rest ≡ [] → WritesPrefix code l xs at
  under-end e =
      let all : u.front ≡ code = sym (append-nil u.front) ∙ rw e at u.split in
      record { bytes = rw (← all) u.bytes; count = rw (← all) u.count }

-- one more part
module _ {code l xs : List ℕ} {at : ℕ} (v rest : List ℕ) (u : PartlyWritten code l xs at (v ++ rest)) where
  part-space : at + length v ≤ length xs
  part-space = omega (arith, under-space u, length-append v rest)

  pub under-pasted : {ys : List ℕ} → ys ≡ pasted xs at v → PartlyWritten code l ys (at + length v) rest
  under-pasted e = record {
    front = u.front ++ v;
    split = append_assoc u.front v rest ∙ u.split;
    bytes = e ∙ rw u.bytes (pasted-append u.front v l 0 at (omega (arith, u.count)) (omega (arith, part-space, under-long u)));
    count = omega (arith, u.count, length-append u.front v);
    fits = u.fits;
  }

  -- the part is written by a function that is lent the free part of the slice, which has space for it
  pub under-lent : {w : List ℕ} → w ≡ v → length w ≤ length (lent_from xs at)
  under-lent e = rw (e, rest_part xs at, length-drop at xs) (omega (arith, part-space))

  pub under_next : {w ys : List ℕ} {n : ℕ} → w ≡ v → WritesPrefix w (lent_from xs at) ys n → PartlyWritten code l (back_from xs at ys) (at + n) rest
  under_next e p = rw (p.count, e) (under-pasted (back xs v at (rw e at p.bytes)))

-- one more byte
pub under-byte : {code l xs rest : List ℕ} {at : ℕ} (b : ℕ) → PartlyWritten code l xs at (b ∷ rest) → PartlyWritten code l (slice_set xs at b) (at + 1) rest
under-byte {xs = xs} {rest = rest} {at = at} b u = under-pasted (b ∷ []) rest u (sym (pasted-cons xs at b [] (omega (arith, under-space u)) ∙ pasted-nil (slice_set xs at b) (at + 1)))

-- the first part, written by a function that is lent the whole slice
module _ (l : List ℕ) {code : List ℕ} (v rest : List ℕ) (e : code ≡ v ++ rest) (fits : length code ≤ length l) where
  pub first-lent : {w : List ℕ} → w ≡ v → length w ≤ length l
  first-lent d = rw d (omega (arith, fits, ap length e, length-append v rest))

  pub first-put : {w ys : List ℕ} {n : ℕ} → w ≡ v → WritesPrefix w l ys n → PartlyWritten code l ys n rest
  first-put d p = rw (p.count, d) (rw zero-add at (under-pasted v rest (under-start e fits) (rw d at p.bytes)))

-- the last part
module _ {code l xs v : List ℕ} {at : ℕ} (u : PartlyWritten code l xs at v) where
  more : PartlyWritten code l xs at (v ++ [])
  more = rw (append-nil v) u

  pub last-lent : {w : List ℕ} → w ≡ v → length w ≤ length (lent_from xs at)
  last-lent = under-lent v [] more

  pub last-put : {w ys : List ℕ} {n : ℕ} → w ≡ v → WritesPrefix w (lent_from xs at) ys n → WritesPrefix code l (back_from xs at ys) (at + n)
  last-put e p = under-end (under_next v [] more e p) refl

  module _ {w ys : List ℕ} {n : ℕ} (e : w ≡ v) (p : WritesPrefix w (lent_from xs at) ys n) where
    pub last-long : length (back_from xs at ys) ≡ length l
    last-long = under-long (under_next v [] more e p)

    pub last-space : at + n ≤ length l
    last-space = omega (arith, under-space (under_next v [] more e p), last-long)
