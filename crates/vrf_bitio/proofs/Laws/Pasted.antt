-- Laws of `pasted`: writing byte by byte, writing twice in a row, and reading a place afterwards. For each proof about written memory.
use Rattle.std.specs.Prelude.{◌≡◌, List, [], ◌∷◌, ◌++◌, ◌≢◌, ℕ, zero, suc, ◌+◌, ◌-◌, ◌<◌, ◌≤◌, length, get_or, take, drop, set}
use Rattle.std.proofs.Common.{sym, ap, ◌∙◌, add-zero, zero-add, not-suc-le-zero, add-one, arith, length-set, take-append-drop, length-append, drop-cons, take-suc-set, drop-set-lt, get_or-set_same, get_or-set_other}
use Rattle.std.proofs.lemmas.List.{take-set-le}
use Rattle.std.proofs.Math.Seq.{append_snoc, drop-drop}
use borrow.Rule.Slice.PartMut.{put_mid}
use Rattle.vrf_bitio.specs.Pasted.{pasted}

pub pasted-nil : (l : List ℕ) (at : ℕ) → pasted l at [] ≡ l
unfolding pasted
pasted-nil l at = rw add-zero (take-append-drop at l)

-- writing the first byte and then the others
pub pasted-cons : (l : List ℕ) (at x : ℕ) (v : List ℕ) → at < length l → pasted l at (x ∷ v) ≡ pasted (set l at x) (at + 1) v
unfolding pasted
pasted-cons l at x v h =
    let e : suc at + length v ≡ at + suc (length v) = omega arith in
    let past : at < at + suc (length v) = omega arith in
    rw (add-one at, e, take-suc-set l at x h, drop-set-lt (at + suc (length v)) l at x past) (sym (append_snoc (take at l) x _))

-- writing at the front of a list
pub pasted-front : (l v : List ℕ) → pasted l 0 v ≡ v ++ drop (length v) l
unfolding pasted
pasted-front l v = rw zero-add

-- writing the last byte and then the others
pub pasted-snoc : (l : List ℕ) (at b : ℕ) (v : List ℕ) → at + length v < length l → pasted l at (v ++ (b ∷ [])) ≡ pasted (set l (at + length v) b) at v
unfolding pasted
pasted-snoc l at b v h =
    let i : ℕ = at + length v in
    let hs : i < length (set l i b) = rw length-set h in
    let le : at ≤ i = omega arith in
    let li : i < suc i = omega arith in
    let tail : drop i (set l i b) ≡ b ∷ drop (suc i) l = drop-cons (set l i b) i 0 hs ∙ rw (get_or-set_same l i b 0 h, drop-set-lt (suc i) l i b li) in
    let n : at + length (v ++ (b ∷ [])) ≡ suc i = rw length-append (omega arith) in
    rw (take-set-le at l i b le, tail, n) (ap (λ (x : List ℕ). take at l ++ x) (append_snoc v b (drop (suc i) l)))

pub pasted_length : (v l : List ℕ) (at : ℕ) → at + length v ≤ length l → length (pasted l at v) ≡ length l
pasted_length [] l at h = ap length (pasted-nil l at)
pasted_length (x ∷ v) l at h =
    let fits : at + 1 + length v ≤ length (set l at x) = rw (length-set l at x) (omega arith) in
    ap length (pasted-cons l at x v (omega arith)) ∙ pasted_length v (set l at x) (at + 1) fits ∙ length-set l at x

-- writing x and then y directly after it
pub pasted-append : (x y l : List ℕ) (at to : ℕ) → to ≡ at + length x → to ≤ length l → pasted (pasted l at x) to y ≡ pasted l at (x ++ y)
pasted-append [] y l at to e h =
    let e' : to ≡ at = omega arith in
    rw (pasted-nil l at, e')
pasted-append (a ∷ x) y l at to e h =
    let e' : to ≡ at + 1 + length x = omega arith in
    let inside : at < length l = omega arith in
    let h' : to ≤ length (set l at a) = rw (length-set l at a) h in
    rw (pasted-cons l at a x inside, pasted-cons l at a (x ++ y) inside) (pasted-append x y (set l at a) (at + 1) to e' h')

-- what `l[at..at + k]` leaves when v, which has k elements, is written over it
pub put_mid-pasted : (l v : List ℕ) (at k : ℕ) {x : List ℕ} → x ≡ v → length v ≡ k → put_mid at (at + k - at) l x ≡ pasted l at v
unfolding pasted
put_mid-pasted l v at k e size =
    let count : at + k - at ≡ k = omega arith in
    rw (count, e, drop-drop k at l, size)

-- a place j before `at`, or from `to` on
pub data Outside (at to j : ℕ) : Type 0 where
  before : j < at → Outside at to j
  following : to ≤ j → Outside at to j

narrower : (at n j : ℕ) → Outside at (at + suc n) j → Outside (at + 1) (at + 1 + n) j
narrower at n j (before h) = before (omega arith)
narrower at n j (following h) = following (omega arith)

apart : (at n j : ℕ) → Outside at (at + suc n) j → j ≢ at
apart at n j (before h) = omega arith
apart at n j (following h) = omega arith

-- the elements outside the written bytes are unchanged; those inside are the written bytes
pub get_d-pasted-out : (v l : List ℕ) (at j : ℕ) → at + length v ≤ length l → Outside at (at + length v) j → get_or (pasted l at v) j 0 ≡ get_or l j 0
get_d-pasted-out [] l at j fits h = ap (λ (m : List ℕ). get_or m j 0) (pasted-nil l at)
get_d-pasted-out (x ∷ v) l at j fits h =
    let inside : at < length l = omega arith in
    let fits' : at + 1 + length v ≤ length (set l at x) = rw (length-set l at x) (omega arith) in
    rw (pasted-cons l at x v inside) (get_d-pasted-out v (set l at x) (at + 1) j fits' (narrower at (length v) j h) ∙ get_or-set_other l at j x 0 (apart at (length v) j h))

pub get_d-pasted-in : (v l : List ℕ) (at i : ℕ) → at + length v ≤ length l → i < length v → get_or (pasted l at v) (at + i) 0 ≡ get_or v i 0
get_d-pasted-in [] l at i fits h = absurd (not-suc-le-zero h)
get_d-pasted-in (x ∷ v) l at zero fits h =
    let inside : at < length l = omega arith in
    let fits' : at + 1 + length v ≤ length (set l at x) = rw (length-set l at x) (omega arith) in
    rw (add-zero, pasted-cons l at x v inside) (get_d-pasted-out v (set l at x) (at + 1) at fits' (before (omega arith)) ∙ get_or-set_same l at x 0 inside)
get_d-pasted-in (x ∷ v) l at (suc i) fits h =
    let inside : at < length l = omega arith in
    let fits' : at + 1 + length v ≤ length (set l at x) = rw (length-set l at x) (omega arith) in
    let next : at + suc i ≡ at + 1 + i = omega arith in
    rw (next, pasted-cons l at x v inside) (get_d-pasted-in v (set l at x) (at + 1) i fits' (omega arith))
