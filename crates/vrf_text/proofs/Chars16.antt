-- One character of UTF-16, by the word that holds its units. Past the end of a text the word has 0, which is not a low surrogate.
use mathlib.Core.Logic.{◌⊎◌, inl, inr}
use mathlib.Core.List.{List, [], ◌∷◌}
use mathlib.Core.Option.{Option, none, some}
use mathlib.Core.Path.{◌≡◌, refl, sym, ap, ◌∙◌}
use Prim.Native.Nat.{ℕ, ◌+◌, ◌*◌, ◌/◌, ◌%◌, ◌≤◌, ◌<◌}
use native.Mathlib.Omega.{arith}
use lib.ListN.{get_or, drop}
use Rattle.vrf_bitio.proofs.Laws.Cases.{at_most, clash}
use Rattle.vrf_text.specs.Utf16.{Kind, single, high, low, kind, pair, before, utf16_from, utf16}
use Rattle.vrf_text.specs.Inner.Steps.{WordHolds16}
use Rattle.vrf_text.proofs.Laws.Utf16.{kind-below, kind-above, kind-high, kind-low, single-first, high-first, low_second}

low-range : (a : ℕ) → kind a ≡ low → (0xDC00 ≤ a) × (a ≤ 0xDFFF)
unfolding kind
low-range a =
    let P : Kind → Type 0 = λ k. k ≡ low → (0xDC00 ≤ a) × (a ≤ 0xDFFF) in
    at_most P a 0xD7FF (λ _ e. clash (cc)) λ _.
    at_most P a 0xDBFF (λ _ e. clash (cc)) λ p.
    at_most P a 0xDFFF (λ q _. (p, q)) λ _ e. clash (cc)

-- ---- the first units of a list

stray : (a : ℕ) (l : List ℕ) → kind a ≡ low → utf16 (a ∷ l) ≡ none
unfolding utf16 utf16_from
stray a l e = rw (e, utf16_from)

two : (a : ℕ) (l : List ℕ) → kind (get_or l 0 0) ≡ low → utf16_from (some a) l ≡ before (pair a (get_or l 0 0)) (utf16 (drop 1 l))
unfolding kind
two a [] e = clash (cc)
two a (b ∷ l) e = low_second a b l e

alone : (a : ℕ) (l : List ℕ) → (kind (get_or l 0 0) ≡ low → ⊥) → utf16_from (some a) l ≡ none
unfolding utf16_from
alone a [] h = refl
alone a (b ∷ l) h = go (kind b) h
  where
    go : (k : Kind) → (k ≡ low → ⊥) → ◌≡◌ {A = Option (List ℕ)} (elim k [ single ↦ none | high ↦ none | low ↦ before (pair a b) (utf16_from none l) ]) none
    go single h = refl
    go high h = refl
    go low h = absurd (h refl)

-- ---- the character at the start of a word

module _ (w : ℕ) where
  abbrev unit : ℕ
  unit = w % 0x10000

  abbrev next : ℕ
  next = w / 0x10000 % 0x10000

  -- what holds of each list that begins with the first unit of the word holds of each list that the word holds
  begun : (P : List ℕ → Type 0) → ((l : List ℕ) → get_or l 0 0 ≡ next → P (unit ∷ l)) → (ws : List ℕ) → WordHolds16 w ws → P ws
  begun P f [] q = absurd (omega (arith, q.any))
  begun P f (a ∷ l) q = rw q.first (f l q.second)

  pub single_of : (unit < 0xD800) ⊎ ((0xD800 ≤ unit) × (0xDFFF < unit)) → (ws : List ℕ) → WordHolds16 w ws → utf16 ws ≡ before unit (utf16 (drop 1 ws))
  single_of (inl h) = begun (λ ws. utf16 ws ≡ before unit (utf16 (drop 1 ws))) λ l _. single-first unit l (kind-below unit h)
  single_of (inr h) = begun (λ ws. utf16 ws ≡ before unit (utf16 (drop 1 ws))) λ l _. single-first unit l (kind-above unit h.1)

  no-low : 0xD800 ≤ unit → unit ≤ 0xDBFF → (kind next ≡ low → ⊥) → (ws : List ℕ) → WordHolds16 w ws → utf16 ws ≡ none
  no-low h k f = begun (λ ws. utf16 ws ≡ none) λ l e. high-first unit l (kind-high unit h k) ∙ alone unit l (λ q. f (ap kind (sym e) ∙ q))

  pub none_of : 0xD800 ≤ unit → unit ≤ 0xDFFF → (0xDBFF < unit) ⊎ (((unit ≤ 0xDBFF) × (next < 0xDC00)) ⊎ ((unit ≤ 0xDBFF) × (0xDC00 ≤ next) × (0xDFFF < next)))
      → (ws : List ℕ) → WordHolds16 w ws → utf16 ws ≡ none
  none_of h k (inl p) = begun (λ ws. utf16 ws ≡ none) λ l _. stray unit l (kind-low unit p k)
  none_of h k (inr (inl p)) = no-low h p.0 λ e. omega (arith, low-range next e)
  none_of h k (inr (inr p)) = no-low h p.0 λ e. omega (arith, low-range next e)

  pub pair_of : 0xD800 ≤ unit → unit ≤ 0xDBFF → 0xDC00 ≤ next → next ≤ 0xDFFF
      → (ws : List ℕ) → WordHolds16 w ws → utf16 ws ≡ before (0x10000 + (unit % 0x400 * 0x400 + next % 0x400)) (utf16 (drop 2 ws))
  unfolding pair
  pair_of h k p q = begun (λ ws. utf16 ws ≡ before (0x10000 + (unit % 0x400 * 0x400 + next % 0x400)) (utf16 (drop 2 ws)))
      λ l e. high-first unit l (kind-high unit h k) ∙ two unit l (ap kind e ∙ kind-low next p q) ∙ rw e
