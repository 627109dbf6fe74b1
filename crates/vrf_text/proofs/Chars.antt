-- One character of UTF-8, by the word that holds its bytes. Past the end of a text the word has 0, which is not a tail byte.
use mathlib.Core.Bool.{Bool, true, false, cond, ◌&&◌}
use mathlib.Core.List.{List, [], ◌∷◌}
use mathlib.Core.Path.{◌≡◌, refl, sym, ap, ◌∙◌}
use Rattle.std.specs.Prelude.{Some, None}
use Prim.Native.Nat.{ℕ, suc, ◌+◌, ◌/◌, ◌%◌, ◌≤◌, ◌<◌, zero-le}
use native.Mathlib.Nat.{add-zero}
use native.Mathlib.Omega.{arith}
use lib.Dec.{eqb}
use lib.ListN.{get_or, drop}
use lib.Seq.{get_or-drop, drop-drop}
use borrow.Author.Tests.{le-leb, lt-leb, ne_eqb}
use Rattle.vrf_bitio.proofs.Laws.Cases.{by_order, clash}
use Rattle.vrf_text.specs.Utf8.{asks, bad, lead, within, utf8_from, utf8}
use Rattle.vrf_text.specs.Inner.Steps.{byte_of, WordHolds, Utf8Step}
use Rattle.vrf_text.proofs.Laws.Utf8.{utf8-lead, utf8-bad, lead-1, lead-2, lo-3, hi-3, lead-3, lo-4, hi-4, lead-4}

-- ---- lead bytes and tail bytes at the start of a list

begins : (l : List ℕ) {n lo hi : ℕ} → lead (get_or l 0 0) ≡ asks n lo hi → utf8 l ≡ utf8_from n lo hi (drop 1 l)
unfolding utf8 utf8_from lead
begins [] {n} {lo} {hi} e = let z : n ≡ 0 = cc in rw z
begins (a ∷ l) e = utf8-lead a l e

no_lead : (l : List ℕ) → lead (get_or l 0 0) ≡ bad → utf8 l ≡ false
unfolding lead
no_lead [] e = clash (cc)
no_lead (a ∷ l) e = utf8-bad a l e

due : (n lo hi : ℕ) (l : List ℕ) → 0 < lo → utf8_from (suc n) lo hi l ≡ within lo hi (get_or l 0 0) && utf8_from n 0x80 0xBF (drop 1 l)
unfolding utf8_from within
due n lo hi [] h = rw (lt-leb lo 0 h, ne_eqb (suc n) 0 (λ e. omega arith))
due n lo hi (b ∷ l) h = refl

module _ (a : ℕ) where
  lead_low : 0x80 ≤ a → a < 0xC2 → lead a ≡ bad
  unfolding lead
  lead_low h k = rw (lt-leb a 0x7F h, le-leb a 0xC1 (omega arith))

  lead_high : 0xF4 < a → lead a ≡ bad
  unfolding lead
  lead_high h =
      rw (
        lt-leb a 0x7F (omega arith),
        lt-leb a 0xC1 (omega arith),
        lt-leb a 0xDF (omega arith),
        lt-leb a 0xE0 (omega arith),
        lt-leb a 0xEC (omega arith),
        lt-leb a 0xED (omega arith),
        lt-leb a 0xEF (omega arith),
        lt-leb a 0xF0 (omega arith),
        lt-leb a 0xF3 (omega arith),
        lt-leb a 0xF4 h,
      )

-- `pick` is not 0 if neither choice is
pick_pos : (t : Bool) {x y : ℕ} → 0 < x → 0 < y → 0 < cond t x y
pick_pos true h k = h
pick_pos false h k = k

and-false : (t : Bool) → t && false ≡ false
and-false true = refl
and-false false = refl

-- ---- the character at the start of a word

module _ (w : ℕ) (l : List ℕ) (h : WordHolds w l) where
  byte-0 : get_or l 0 0 ≡ w % 256
  unfolding byte_of
  byte-0 = h 0 (omega arith)

  led : {n lo hi : ℕ} → lead (w % 256) ≡ asks n lo hi → utf8 l ≡ utf8_from n lo hi (drop 1 l)
  led e = begins l (ap lead byte-0 ∙ e)

  -- byte i is due, and between lo and hi
  tail : (i n lo hi : ℕ) → i < 8 → 0 < lo → utf8_from (suc n) lo hi (drop i l) ≡ within lo hi (byte_of w i) && utf8_from n 0x80 0xBF (drop (i + 1) l)
  tail i n lo hi k p = due n lo hi (drop i l) p ∙ rw (get_or-drop i l 0 0, add-zero i, h i k, drop-drop 1 i l)

  second : (n : ℕ) {lo hi : ℕ} → 0 < lo → lead (w % 256) ≡ asks (suc n) lo hi → utf8 l ≡ within lo hi (w / 256 % 256) && utf8_from n 0x80 0xBF (drop 2 l)
  unfolding byte_of
  second n {lo} {hi} p e = led e ∙ tail 1 n lo hi (omega arith) p

  third : (n : ℕ) → utf8_from (suc n) 0x80 0xBF (drop 2 l) ≡ within 0x80 0xBF (w / 256 / 256 % 256) && utf8_from n 0x80 0xBF (drop 3 l)
  unfolding byte_of
  third n = tail 2 n 0x80 0xBF (omega arith) (omega arith)

  fourth : utf8_from 1 0x80 0xBF (drop 3 l) ≡ within 0x80 0xBF (w / 256 / 256 / 256 % 256) && utf8 (drop 4 l)
  unfolding byte_of utf8
  fourth = tail 3 0 0x80 0xBF (omega arith) (omega arith)

-- each answer of the code, from the tests before it
module _ (w : ℕ) where
  pub one : w % 256 < 0x80 → Utf8Step w 4 (Some 1)
  unfolding utf8
  one h = record { few = (omega arith, omega arith); passed = λ l k. sym (led w l k (lead-1 (record { low = zero-le; high = omega arith }))) }

  none : lead (w % 256) ≡ bad → Utf8Step w 4 None
  none e = record { few = tt; passed = λ l k. no_lead l (ap lead (byte-0 w l k) ∙ e) }

  pub too-low : 0x80 ≤ w % 256 → w % 256 < 0xC2 → Utf8Step w 4 None
  too-low h k = none (lead_low (w % 256) h k)

  pub too-high : 0xF4 < w % 256 → Utf8Step w 4 None
  too-high h = none (lead_high (w % 256) h)

  module _ (h : 0xC2 ≤ w % 256) (k : w % 256 < 0xE0) where
    of_two : (l : List ℕ) → WordHolds w l → utf8 l ≡ within 0x80 0xBF (w / 256 % 256) && utf8 (drop 2 l)
    unfolding utf8
    of_two l q = second w l q 0 (omega arith) (lead-2 (record { low = h; high = omega arith }))

    pub two-pass : within 0x80 0xBF (w / 256 % 256) ≡ true → Utf8Step w 4 (Some 2)
    two-pass e = record { few = (omega arith, omega arith); passed = λ l q. sym (of_two l q ∙ rw e) }

    pub two-fail : within 0x80 0xBF (w / 256 % 256) ≡ false → Utf8Step w 4 None
    two-fail e = record { few = tt; passed = λ l q. of_two l q ∙ rw e }

  -- the tests of the bytes after the lead byte
  abbrev Second : ℕ → ℕ → Bool
  Second lo hi = within lo hi (w / 256 % 256)

  abbrev Third : Bool
  Third = within 0x80 0xBF (w / 256 / 256 % 256)

  abbrev Fourth : Bool
  Fourth = within 0x80 0xBF (w / 256 / 256 / 256 % 256)

  -- the test of the second byte, by the answers of `pick`
  picked : {lo hi x y : ℕ} {r t : Bool} → lo ≡ x → hi ≡ y → r ≡ Second lo hi → r ≡ t → Second x y ≡ t
  picked el eh e f = rw (← el, ← eh) (sym e ∙ f)

  module _ (h : 0xE0 ≤ w % 256) (k : w % 256 < 0xF0) where
    of_three : (l : List ℕ) → WordHolds w l → utf8 l ≡ Second (lo-3 (w % 256)) (hi-3 (w % 256)) && (Third && utf8 (drop 3 l))
    unfolding utf8
    of_three l q = second w l q 1 (pick_pos (eqb (w % 256) 0xE0) (omega arith) (omega arith)) (lead-3 (w % 256) h k) ∙ rw (third w l q 0)

    module _ {lo hi : ℕ} {r : Bool} (el : lo ≡ lo-3 (w % 256)) (eh : hi ≡ hi-3 (w % 256)) (e : r ≡ Second lo hi) where
      pub three-pass : Third ≡ true → r ≡ true → Utf8Step w 4 (Some 3)
      three-pass f g = record { few = (omega arith, omega arith); passed = λ l q. sym (of_three l q ∙ rw (picked el eh e g, f)) }

      pub three-fail : r ≡ false → Utf8Step w 4 None
      three-fail g = record { few = tt; passed = λ l q. of_three l q ∙ rw (picked el eh e g) }

  module _ (h : 0xF0 ≤ w % 256) (k : w % 256 ≤ 0xF4) where
    of_four : (l : List ℕ) → WordHolds w l → utf8 l ≡ Second (lo-4 (w % 256)) (hi-4 (w % 256)) && (Third && (Fourth && utf8 (drop 4 l)))
    of_four l q =
        second w l q 2 (pick_pos (eqb (w % 256) 0xF0) (omega arith) (omega arith)) (lead-4 (w % 256) h k) ∙ rw (third w l q 1, fourth w l q)

    pub fourth-fail : Third ≡ true → Fourth ≡ false → Utf8Step w 4 None
    fourth-fail f g = record { few = tt; passed = λ l q. of_four l q ∙ rw (f, g, and-false) }

    module _ {lo hi : ℕ} {r : Bool} (el : lo ≡ lo-4 (w % 256)) (eh : hi ≡ hi-4 (w % 256)) (e : r ≡ Second lo hi) where
      pub four-pass : Third ≡ true → Fourth ≡ true → r ≡ true → Utf8Step w 4 (Some 4)
      four-pass f f' g = record { few = (omega arith, omega arith); passed = λ l q. sym (of_four l q ∙ rw (picked el eh e g, f, f')) }

      pub four-fail : r ≡ false → Utf8Step w 4 None
      four-fail g = record { few = tt; passed = λ l q. of_four l q ∙ rw (picked el eh e g) }

  pub third-fail : 0xE0 ≤ w % 256 → Third ≡ false → Utf8Step w 4 None
  third-fail h f = by_order (w % 256) 0xEF
      (λ p. record { few = tt; passed = λ l q. of_three h (omega arith) l q ∙ rw (f, and-false) })
      λ p. by_order (w % 256) 0xF4
      (λ p'. record { few = tt; passed = λ l q. of_four p p' l q ∙ rw (f, and-false) })
      λ p'. too-high p'
