-- Lemmas for the comparisons of texts and the searches in them.
use mathlib.Core.Path.{◌≡◌, refl, sym, ap, ◌∙◌}
use mathlib.Core.Bool.{Bool, true, false, not, ◌||◌}
use mathlib.Core.List.{List}
use mathlib.Core.Option.{none}
use Prim.Native.Nat.{ℕ, ◌-◌, ◌≤◌}
use native.Mathlib.Omega.{arith}
use lib.Dec.{eqb}
use lib.ListN.{length, take, drop, length-drop}
use lib.Seq.{take_all}
use borrow.Author.Tests.{eqb-true, eqb-false}
use Rattle.vrf_path.specs.Text.{same, eight, starts_with, ends_with, last_below}
use Rattle.vrf_path.specs.Inner.Text.{Differ}
use Rattle.vrf_path.proofs.Laws.Text.{differ-eight}

-- the part `&t[i..]`, as the slice rule gives it
pub part-from : (t : List ℕ) (i : ℕ) → take (length t - i) (drop i t) ≡ drop i t
part-from t i = take_all (length t - i) (drop i t) (rw length-drop (omega arith))

-- the result of `starts_with` on that part
pub starts-at : (p t : List ℕ) (i : ℕ) {r x : Bool} → r ≡ starts_with p (take (length t - i) (drop i t)) → r ≡ x → starts_with p (drop i t) ≡ x
starts-at p t i e h = ap (starts_with p) (sym (part-from t i)) ∙ sym e ∙ h

pub ends_at : (p t : List ℕ) {r : Bool} → r ≡ same (take (length t - (length t - length p)) (drop (length t - length p) t)) p → r ≡ ends_with p t
unfolding ends_with
ends_at p t e = e ∙ ap (λ (s : List ℕ). same s p) (part-from t (length t - length p))

-- the result of comparing eight bytes
pub eight-outcome : (s t : List ℕ) (i : ℕ) → Differ s t (eight s i ≡ eight t i) (not (eqb (eight s i) (eight t i)))
eight-outcome s t i = by (eqb (eight s i) (eight t i)) refl
  where
    by : (x : Bool) → eqb (eight s i) (eight t i) ≡ x → Differ s t (eight s i ≡ eight t i) (not x)
    by true e = eqb-true (eight s i) (eight t i) e
    by false e = differ-eight s t i (eqb-false (eight s i) (eight t i) e)

-- the result of four comparisons
pub differ-four : (s t : List ℕ) {P Q R S T : Type 0} (x y z w : Bool) → Differ s t P x → Differ s t Q y → Differ s t R z → Differ s t S w → (P → Q → R → S → T) → Differ s t T (((x || y) || z) || w)
differ-four s t true y z w a b c d f = a
differ-four s t false true z w a b c d f = b
differ-four s t false false true w a b c d f = c
differ-four s t false false false true a b c d f = d
differ-four s t false false false false a b c d f = f a b c d

-- there is no place below 0
pub last-ended : (b : ℕ) (t : List ℕ) (i : ℕ) → i ≤ 0 → last_below b t i ≡ none
unfolding last_below
last-ended b t i h = let z : i ≡ 0 = omega arith in rw z
