-- Laws of leaves: the leaf by the place of the last dot, and when a text is the leaf of a path (`LeafIs`).
use Rattle.std.specs.Prelude.{◌≡◌, refl, true, false, List, [], ◌∷◌, ◌++◌, ℕ, zero, suc, ◌+◌, ◌-◌, ◌<◌, ◌≤◌, eqb, length, get_or, take, drop}
use Rattle.std.proofs.Common.{sym, ap, ◌∙◌, arith, get_or-drop, eqb-true, ne_eqb}
use Rattle.std.proofs.Math.Option.{Option, none, some}
use Prim.Native.Char.{code}
use Rattle.std.proofs.Math.ListN.{length-drop, get_or-eq_default}
use Rattle.std.proofs.lemmas.Bool.{eqb-false}
use Rattle.vrf_bitio.proofs.Laws.Cases.{by_cond, by_order, clash, neither}
use Rattle.vrf_path.specs.Text.{last_below}
use Rattle.vrf_path.specs.Keys.{is_separator, has_separator}
use Rattle.vrf_path.specs.Leaf.{leaf_after, leaf}
use Rattle.vrf_path.specs.Inner.Leaf.{Dotless}
use Rattle.vrf_path.proofs.Laws.Text.{non-empty, all-empty, last-here}

module _ (t : List ℕ) {i : ℕ} (e : last_below (code ".") t (length t) ≡ some i) where
  pub leaf-following : i + 1 < length t → leaf t ≡ some (drop (i + 1) t)
  unfolding leaf leaf_after
  leaf-following h = rw e (non-empty (drop (i + 1) t) (rw length-drop (omega arith)))

  pub leaf-empty : length t ≤ i + 1 → leaf t ≡ none
  unfolding leaf leaf_after
  leaf-empty h = rw e (all-empty (drop (i + 1) t) (rw length-drop (omega arith)))

pub leaf-no-dot : (t : List ℕ) → last_below (code ".") t (length t) ≡ none → leaf t ≡ none
unfolding leaf leaf_after
leaf-no-dot t e = rw e

-- ---- texts without a dot

pub separatorless : (t : List ℕ) → has_separator t ≡ false → Dotless t
unfolding has_separator is_separator
separatorless [] h i e = omega (arith, e)
separatorless (b ∷ t) h zero e = let z : true ≡ false = sym (ap is_separator e) ∙ (neither (is_separator b) (has_separator t) h).0 in clash (cc)
separatorless (b ∷ t) h (suc i) e = separatorless t (neither (is_separator b) (has_separator t) h).1 i e

pub separators-append : (s t : List ℕ) → has_separator s ≡ false → has_separator t ≡ false → has_separator (s ++ t) ≡ false
unfolding has_separator
separators-append [] t h k = k
separators-append (b ∷ s) t h k = let n = neither (is_separator b) (has_separator s) h in rw n.0 (separators-append s t n.1 k)

pub separators-take : (n : ℕ) (t : List ℕ) → has_separator t ≡ false → has_separator (take n t) ≡ false
unfolding has_separator
separators-take zero t h = refl
separators-take (suc n) [] h = refl
separators-take (suc n) (b ∷ t) h = let k = neither (is_separator b) (has_separator t) h in rw k.0 (separators-take n t k.1)

-- ---- l is the leaf of t: the byte before it is a dot, and it has no dot

pub record LeafIs (t l : List ℕ) : Type 0 where
  pub shorter : length l < length t
  pub tail : drop (length t - length l) t ≡ l
  pub dot : get_or t (length t - length l - 1) 0 ≡ code "."
  pub some_bytes : 0 < length l
  pub dotless : Dotless l

-- the byte at the last place of b is b, and no later byte below n is
pub last-is : (b : ℕ) (t : List ℕ) (n : ℕ) {i : ℕ} → last_below b t n ≡ some i → (get_or t i 0 ≡ b) × ((j : ℕ) → i < j → j < n → get_or t j 0 ≡ b → ⊥)
unfolding last_below
last-is b t zero e = clash (cc)
last-is b t (suc n) {i} e =
    by_cond (λ (o : Option ℕ). o ≡ some i → (get_or t i 0 ≡ b) × ((j : ℕ) → i < j → j < suc n → get_or t j 0 ≡ b → ⊥)) (eqb (get_or t n 0) b)
    (λ ex es. let ei : n ≡ i = cc in (rw ei at (eqb-true (get_or t n 0) b ex), λ j h k. absurd (omega (arith, h, k))))
    (λ ex es. let old = last-is b t n es in
    (old.0, λ j h k ej. by_order n j (λ m. let z : j ≡ n = omega arith in eqb-false (get_or t n 0) b ex (rw z at ej)) (λ m. old.1 j h m ej))) e

-- d bytes from place k on, none of them b, do not change the last place of b
last-skip : (b : ℕ) (t : List ℕ) (k d : ℕ) → ((j : ℕ) → j < d → get_or t (k + j) 0 ≡ b → ⊥) → last_below b t (k + d) ≡ last_below b t k
unfolding last_below
last-skip b t k zero h = let z : k + 0 ≡ k = omega arith in rw z
last-skip b t k (suc d) h =
    let z : k + suc d ≡ suc (k + d) = omega arith in
    rw (z, ne_eqb (get_or t (k + d) 0) b (h d (omega arith))) (last-skip b t k d (λ j l. h j (omega (arith, l))))

-- a leaf that was found, by the place of the last dot
pub leaf-is : (t l : List ℕ) → leaf t ≡ some l → LeafIs t l
leaf-is t l e = by (last_below (code ".") t (length t)) refl
  where
    by : (o : Option ℕ) → last_below (code ".") t (length t) ≡ o → LeafIs t l
    by none eo = clash (cc (leaf-no-dot t eo))
    by (some i) eo = by_order (length t) (i + 1)
        (λ h. clash (cc (leaf-empty t eo h)))
        (λ h. let el : l ≡ drop (i + 1) t = cc (leaf-following t eo h) in
        let size : length l ≡ length t - (i + 1) = rw el (length-drop (i + 1) t) in
        let following : length t - length l ≡ i + 1 = omega arith in
        let before : length t - length l - 1 ≡ i = omega arith in
        let last = last-is (code ".") t (length t) eo in
        record {
          shorter = omega arith;
          tail = rw following (sym el);
          dot = rw before last.0;
          some_bytes = omega arith;
          dotless = λ j ej.
              let there : get_or t (i + 1 + j) 0 ≡ code "." = sym (get_or-drop (i + 1) t j 0) ∙ rw el at ej in
              by_order (length t) (i + 1 + j) (λ past. omega (arith, get_or-eq_default t 0 past)) (λ within. last.1 (i + 1 + j) (omega arith) within there);
        })

pub is_leaf : (t l : List ℕ) → LeafIs t l → leaf t ≡ some l
is_leaf t l is =
    let k : ℕ = length t - length l in
    let whole : length t ≡ k + length l = omega (arith, is.shorter) in
    let dotless : (j : ℕ) → j < length l → get_or t (k + j) 0 ≡ code "." → ⊥ = λ j _ e. is.dotless j (rw is.tail at (get_or-drop k t j 0 ∙ e)) in
    let last : last_below (code ".") t (length t) ≡ some (k - 1) = ap (last_below (code ".") t) whole ∙ last-skip (code ".") t k (length l) dotless ∙ last-here (code ".") t (k - 1) (omega (arith, is.shorter)) is.dot in
    let following : k - 1 + 1 ≡ k = omega (arith, is.shorter) in
    rw (following, is.tail) at (leaf-following t last (omega (arith, is.shorter, is.some_bytes)))
