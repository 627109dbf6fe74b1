-- The loops over a text in UTF-8: at place i the text is valid if and only if the rest from i on is.
use mathlib.Core.Bool.{true, false}
use mathlib.Core.List.{List}
use mathlib.Core.Path.{◌≡◌, sym, ap, ◌∙◌, subst}
use Rattle.std.specs.Prelude.{Option, Some, None}
use Prim.Native.Nat.{ℕ, ◌+◌, ◌-◌, ◌≤◌}
use native.Mathlib.Omega.{arith}
use lib.ListN.{length, take, drop, length-drop, drop_of_length-le}
use lib.Seq.{take_all, drop-drop}
use Rattle.vrf_text.specs.Utf8.{utf8, utf8_from}
use Rattle.vrf_text.specs.Inner.Steps.{Passed, Clear}
use Rattle.vrf_text.proofs.Ascii.{clear-on}

module _ (l : List ℕ) (i : ℕ) (inv : utf8 (drop i l) ≡ utf8 l) where
  pub bad : Passed (drop i l) None → false ≡ utf8 l
  bad p = sym p ∙ inv

  pub on : (k : ℕ) → Passed (drop i l) (Some k) → utf8 (drop (i + k) l) ≡ utf8 l
  on k p = ap utf8 (sym (drop-drop k i l)) ∙ p ∙ inv

  pub end : length l ≤ i → true ≡ utf8 l
  unfolding utf8 utf8_from
  end h = ap utf8 (sym (drop_of_length-le l h)) ∙ inv

-- a slice from place i to its end, as the code lends it
lent : (l : List ℕ) (i : ℕ) → take (length l - i) (drop i l) ≡ drop i l
lent l i = take_all (length l - i) (drop i l) (omega (arith, length-drop i l))

pub rest : (l : List ℕ) (i : ℕ) (k : Option ℕ) → Passed (take (length l - i) (drop i l)) k → Passed (drop i l) k
rest l i k p = rw (lent l i) at p

-- 32 more bytes whose bit b is 0
pub block : (l : List ℕ) (b i : ℕ) → Clear l b i → (32 ≤ length (take (length l - i) (drop i l))) × Clear (take (length l - i) (drop i l)) b 32
    → (i + 32 ≤ length l) × Clear l b (i + 32)
block l b i c p =
    let q : (32 ≤ length (drop i l)) × Clear (drop i l) b 32 = subst (λ (m : List ℕ). (32 ≤ length m) × Clear m b 32) (lent l i) p in
    (omega (arith, q.0, length-drop i l), clear-on l b i 32 c q.1)
