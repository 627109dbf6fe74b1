-- Laws of texts: when two texts are the same, by bytes and by words, and the searches, one place at a time.
use Rattle.std.specs.Prelude.{◌≡◌, refl, Bool, true, false, ◌&&◌, List, [], ◌∷◌, ◌++◌, ℕ, zero, suc, ◌+◌, ◌-◌, ◌*◌, ◌^◌, ◌<◌, ◌≤◌, eqb, take}
use Rattle.std.proofs.Common.{Decides, sym, ap, ◌∙◌, add-one, length-take, length-drop, drop_of_length-le, drop-drop, get_or-drop, get_or-append-add}
use Rattle.std.proofs.Math.Option.{Option, none, some}
use native.Mathlib.Omega.{arith}
use Rattle.std.proofs.Math.ListN.{length, get_or, drop, length-append}
use Rattle.std.proofs.Math.Seq.{drop-cons, drop_at}
use borrow.Author.Tests.{eq-eqb, ne_eqb, eqb-true}
use Rattle.vrf_bitio.proofs.Laws.Cases.{by-test, by_cond, clash}
use Rattle.vrf_path.specs.Text.{same, four, eight, starts_with, ends_with, first_from, last_below, non_empty}

-- texts of different lengths differ
pub same-lengths : (s t : List ℕ) → (length s ≡ length t → ⊥) → same s t ≡ false
unfolding same
same-lengths [] [] h = absurd (h refl)
same-lengths [] (b ∷ t) h = refl
same-lengths (a ∷ s) [] h = refl
same-lengths (a ∷ s) (b ∷ t) h = rest (eqb a b) (same-lengths s t (λ e. h (ap suc e)))
  where
    rest : (x : Bool) {y : Bool} → y ≡ false → (x && y) ≡ false
    rest true e = e
    rest false e = refl

pub same_refl : (t : List ℕ) → same t t ≡ true
unfolding same
same_refl [] = refl
same_refl (b ∷ t) = rw (eq-eqb b b refl, same_refl t)

pub same_true : (s t : List ℕ) → same s t ≡ true → s ≡ t
unfolding same
same_true [] [] e = refl
same_true [] (b ∷ t) e = clash (cc)
same_true (a ∷ s) [] e = clash (cc)
same_true (a ∷ s) (b ∷ t) e = both (eqb a b) refl e (same_true s t)
  where
    both : (x : Bool) → eqb a b ≡ x → (x && same s t) ≡ true → (same s t ≡ true → s ≡ t) → a ∷ s ≡ b ∷ t
    both true ex es rest = rw (eqb-true a b ex, rest es)
    both false ex es rest = clash (cc)

pub same-decides : (s t : List ℕ) → Decides (same s t) (s ≡ t)
same-decides s t = (same_true s t, λ e. rw e (same_refl t))

-- two texts from place i on, by the byte at i
module _ (s t : List ℕ) (i : ℕ) (hs : i < length s) (ht : i < length t) where
  pub same-differ : (get_or s i 0 ≡ get_or t i 0 → ⊥) → same (drop i s) (drop i t) ≡ false
  unfolding same
  same-differ h = rw (drop-cons s i 0 hs, drop-cons t i 0 ht, ne_eqb (get_or s i 0) (get_or t i 0) h)

  pub same-agree : get_or s i 0 ≡ get_or t i 0 → same (drop i s) (drop i t) ≡ same (drop (i + 1) s) (drop (i + 1) t)
  unfolding same
  same-agree h = rw (add-one, drop-cons s i 0 hs, drop-cons t i 0 ht, eq-eqb (get_or s i 0) (get_or t i 0) h)

pub same_ended : (s t : List ℕ) (i : ℕ) → length s ≤ i → length t ≤ i → same (drop i s) (drop i t) ≡ true
unfolding same
same_ended s t i hs ht = rw (drop_of_length-le s hs, drop_of_length-le t ht)

-- texts that agree from place p on agree from any later place on
pub agree-later : (s t : List ℕ) (p i : ℕ) → p ≤ i → same (drop p s) (drop p t) ≡ true → same (drop i s) (drop i t) ≡ true
agree-later s t p i h e =
    let tails : drop p s ≡ drop p t = same_true (drop p s) (drop p t) e in
    let following : p + (i - p) ≡ i = omega arith in
    let from : (u : List ℕ) → drop (i - p) (drop p u) ≡ drop i u = λ u. drop-drop (i - p) p u ∙ ap (λ (k : ℕ). drop k u) following in
    let all : drop i s ≡ drop i t = sym (from s) ∙ ap (drop (i - p)) tails ∙ from t in
    ap (λ (u : List ℕ). same u (drop i t)) all ∙ same_refl (drop i t)

-- two numbers are equal only if their low bytes are equal and the parts above are equal
low_byte : (a b x y : ℕ) → a < 256 → b < 256 → a + 256 * x ≡ b + 256 * y → (a ≡ b) × (x ≡ y)
low_byte a b x y ha hb e = (omega arith, omega arith)

four-lt : (t : List ℕ) → ((i : ℕ) → get_or t i 0 < 256) → (i : ℕ) → four t i < 2 ^ 32
unfolding four
four-lt t b i = omega (arith, b i, b (i + 1), b (i + 2), b (i + 3))

-- texts differ if they are not equal, and so if eight bytes of them differ
same_false : (s t : List ℕ) → (s ≡ t → ⊥) → same s t ≡ false
same_false s t h = by-test (same s t) (λ e. absurd (h (same_true s t e))) (λ e. e)

pub differ-eight : (s t : List ℕ) (i : ℕ) → (eight s i ≡ eight t i → ⊥) → same s t ≡ false
differ-eight s t i h = same_false s t (λ e. h (ap (λ (u : List ℕ). eight u i) e))

-- two texts from place i on, by four and by eight bytes that agree
module _ (s t : List ℕ) (bs : (i : ℕ) → get_or s i 0 < 256) (bt : (i : ℕ) → get_or t i 0 < 256) where
  agree-four : (i : ℕ) → i + 4 ≤ length s → i + 4 ≤ length t → four s i ≡ four t i → same (drop i s) (drop i t) ≡ same (drop (i + 4) s) (drop (i + 4) t)
  unfolding four
  agree-four i hs ht e =
      let p = low_byte (get_or s i 0) (get_or t i 0) _ _ (bs i) (bt i) e in
      let q = low_byte (get_or s (i + 1) 0) (get_or t (i + 1) 0) _ _ (bs (i + 1)) (bt (i + 1)) p.1 in
      let r = low_byte (get_or s (i + 2) 0) (get_or t (i + 2) 0) _ _ (bs (i + 2)) (bt (i + 2)) q.1 in
      let e2 : i + 1 + 1 ≡ i + 2 = omega arith in
      let e3 : i + 2 + 1 ≡ i + 3 = omega arith in
      let e4 : i + 3 + 1 ≡ i + 4 = omega arith in
      same-agree s t i (omega arith) (omega arith) p.0
      ∙ rw e2 at (same-agree s t (i + 1) (omega arith) (omega arith) q.0)
      ∙ rw e3 at (same-agree s t (i + 2) (omega arith) (omega arith) r.0)
      ∙ rw e4 at (same-agree s t (i + 3) (omega arith) (omega arith) r.1)

  pub agree-eight : (i : ℕ) → i + 8 ≤ length s → i + 8 ≤ length t → eight s i ≡ eight t i → same (drop i s) (drop i t) ≡ same (drop (i + 8) s) (drop (i + 8) t)
  unfolding eight
  agree-eight i hs ht e =
      let ls = four-lt s bs i in
      let lt = four-lt t bt i in
      let e8 : i + 4 + 4 ≡ i + 8 = omega arith in
      agree-four i (omega arith) (omega arith) (omega arith) ∙ rw e8 at (agree-four (i + 4) (omega arith) (omega arith) (omega arith))

  -- two texts from place i on, by 32 bytes that agree
  pub agree-words : (i : ℕ) → i + 32 ≤ length s → i + 32 ≤ length t → eight s i ≡ eight t i → eight s (i + 8) ≡ eight t (i + 8) → eight s (i + 16) ≡ eight t (i + 16) → eight s (i + 24) ≡ eight t (i + 24)
      → same (drop i s) (drop i t) ≡ same (drop (i + 32) s) (drop (i + 32) t)
  agree-words i hs ht e0 e1 e2 e3 =
      let w2 : i + 8 + 8 ≡ i + 16 = omega arith in
      let w3 : i + 16 + 8 ≡ i + 24 = omega arith in
      let w4 : i + 24 + 8 ≡ i + 32 = omega arith in
      agree-eight i (omega arith) (omega arith) e0
      ∙ rw w2 at (agree-eight (i + 8) (omega arith) (omega arith) e1)
      ∙ rw w3 at (agree-eight (i + 16) (omega arith) (omega arith) e2)
      ∙ rw w4 at (agree-eight (i + 24) (omega arith) (omega arith) e3)

  -- texts agree from q on if eight bytes at q agree and all bytes from p on agree, where p ≤ q + 8
  pub agree-before : (p q : ℕ) → p ≤ q + 8 → q + 8 ≤ length s → q + 8 ≤ length t → eight s q ≡ eight t q → same (drop p s) (drop p t) ≡ true → same (drop q s) (drop q t) ≡ true
  agree-before p q h hs ht e tail = agree-eight q hs ht e ∙ agree-later s t p (q + 8) h tail

-- texts are the same if they agree up to place i and from an earlier place p on
pub end-decides : (s t : List ℕ) (p i : ℕ) → p ≤ i → same s t ≡ same (drop i s) (drop i t) → same (drop p s) (drop p t) ≡ true → same s t ≡ true
end-decides s t p i h before e = before ∙ agree-later s t p i h e

-- a text shorter than p neither starts nor ends with it
pub starts-short : (p t : List ℕ) → length t < length p → starts_with p t ≡ false
unfolding starts_with
starts-short p t h = same-lengths (take (length p) t) p (rw length-take (omega arith))

pub ends-short : (p t : List ℕ) → length t < length p → ends_with p t ≡ false
unfolding ends_with
ends-short p t h = same-lengths (drop (length t - length p) t) p (rw length-drop (omega arith))

pub starts-length : (p t : List ℕ) → starts_with p t ≡ true → length p ≤ length t
unfolding starts_with
starts-length p t e = omega (arith, rw length-take at (ap length (same_true (take (length p) t) p e)))

-- a text does not start with p if its first byte differs
pub starts_other : (p t : List ℕ) (i : ℕ) → 0 < length p → i < length t → (get_or t i 0 ≡ get_or p 0 0 → ⊥) → starts_with p (drop i t) ≡ false
unfolding starts_with same
starts_other [] t i h k ne = absurd (omega arith)
starts_other (q ∷ p) t i h k ne = rw (drop-cons t i 0 k, ne_eqb (get_or t i 0) q ne)

pub ends-length : (p t : List ℕ) → ends_with p t ≡ true → length p ≤ length t
unfolding ends_with
ends-length p t e = omega (arith, rw length-drop at (ap length (same_true (drop (length t - length p) t) p e)))

-- a text does not end with p if its last byte differs
pub ends-other : (p t : List ℕ) → 0 < length p → (get_or t (length t - 1) 0 ≡ get_or p (length p - 1) 0 → ⊥) → ends_with p t ≡ false
unfolding ends_with
ends-other p t h ne = same_false (drop (length t - length p) t) p (λ tail.
    let size : length t - (length t - length p) ≡ length p = sym (length-drop (length t - length p) t) ∙ ap length tail in
    let last : length t - length p + (length p - 1) ≡ length t - 1 = omega arith in
    ne (ap (λ (i : ℕ). get_or t i 0) (sym last) ∙ sym (get_or-drop (length t - length p) t (length p - 1) 0) ∙ ap (λ (u : List ℕ). get_or u (length p - 1) 0) tail))

-- s ++ q ends with q, and does not end with a text that has a different last byte
module _ (s q : List ℕ) where
  pub ends-following : ends_with q (s ++ q) ≡ true
  unfolding ends_with
  ends-following =
      let before : length (s ++ q) - length q ≡ length s = rw length-append (omega arith) in
      rw (before, drop_at s q (length s) refl) (same_refl q)

  pub ends-not : (p : List ℕ) → 0 < length p → 0 < length q → (get_or q (length q - 1) 0 ≡ get_or p (length p - 1) 0 → ⊥) → ends_with p (s ++ q) ≡ false
  ends-not p hp hq ne =
      let last : length (s ++ q) - 1 ≡ length s + (length q - 1) = rw length-append (omega arith) in
      ends-other p (s ++ q) hp (λ e. ne (sym (get_or-append-add s q (length q - 1) 0) ∙ ap (λ (i : ℕ). get_or (s ++ q) i 0) (sym last) ∙ e))

-- the search for p, one place at a time
module _ (p t : List ℕ) (i : ℕ) where
  pub first-here : i < length t → starts_with p (drop i t) ≡ true → first_from p i (drop i t) ≡ some i
  unfolding first_from
  first-here h e = rw (drop-cons t i 0 h, ← drop-cons t i 0 h, e)

  pub first-later : i < length t → starts_with p (drop i t) ≡ false → first_from p i (drop i t) ≡ first_from p (i + 1) (drop (i + 1) t)
  unfolding first_from
  first-later h e = let c : drop i t ≡ get_or t i 0 ∷ drop (suc i) t = drop-cons t i 0 h in rw (c, ← c, e, add-one)

  pub first-nowhere : length t ≤ i → first_from p i (drop i t) ≡ none
  unfolding first_from
  first-nowhere h = rw (drop_of_length-le t h)

-- where p was found, all of it is inside the text
pub first-within : (p t : List ℕ) (j : ℕ) {i : ℕ} → first_from p j t ≡ some i → i + length p ≤ j + length t
unfolding first_from
first-within p [] j e = clash (cc)
first-within p (b ∷ t) j {i} e =
    by_cond (λ (o : Option ℕ). o ≡ some i → i + length p ≤ j + suc (length t)) (starts_with p (b ∷ t))
    (λ ex es. let ei : j ≡ i = cc in omega (arith, starts-length p (b ∷ t) ex)) (λ ex es. omega (arith, first-within p t (j + 1) es)) e

-- the search for the last byte b, one place at a time, from the end
module _ (b : ℕ) (t : List ℕ) {i : ℕ} (j : ℕ) (e : i ≡ suc j) where
  pub last-here : get_or t j 0 ≡ b → last_below b t i ≡ some j
  unfolding last_below
  last-here h = rw (e, eq-eqb _ _ h)

  pub last-earlier : (get_or t j 0 ≡ b → ⊥) → last_below b t i ≡ last_below b t j
  unfolding last_below
  last-earlier h = rw (e, ne_eqb _ _ h)

pub last_within : (b : ℕ) (t : List ℕ) (n : ℕ) {i : ℕ} → last_below b t n ≡ some i → i < n
unfolding last_below
last_within b t zero e = clash (cc)
last_within b t (suc n) {i} e =
    by_cond (λ (o : Option ℕ). o ≡ some i → i < suc n) (eqb (get_or t n 0) b) (λ ex es. let ei : n ≡ i = cc in omega arith) (λ ex es. omega (arith, last_within b t n es)) e

-- a text with at least one byte
pub non-empty : (t : List ℕ) → 0 < length t → non_empty t ≡ some t
unfolding non_empty
non-empty [] h = absurd (omega arith)
non-empty (b ∷ t) h = refl

pub all-empty : (t : List ℕ) → length t ≤ 0 → non_empty t ≡ none
unfolding non_empty
all-empty [] h = refl
all-empty (b ∷ t) h = absurd (omega arith)
