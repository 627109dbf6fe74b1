-- Laws of UTF-8: the test `utf8` agrees with the grammar of RFC 3629, section 4 (`octets-utf8`, `utf8-octets`); then laws of joined texts,
-- of ASCII and of the largest byte.
use Rattle.std.specs.Prelude.{Bool, true, false, cond, ◌&&◌, List, [], ◌∷◌, ◌++◌, ◌≡◌, refl, ℕ, zero, suc, ◌≤◌, ◌<◌, leb, eqb, length, get_or, drop}
use Rattle.std.proofs.Math.Bool.{and-eq-true_iff}
use Rattle.std.proofs.lemmas.Bool.{false≢true}
use Rattle.std.proofs.Common.{append_assoc, append-nil, sym, ap, ◌∙◌, zero-le, suc-le-suc}
use native.Mathlib.Omega.{arith}
use Rattle.std.proofs.Math.Seq.{drop-length}
use borrow.Author.Tests.{leb-true, le-leb, lt-leb, eqb-true, ne_eqb}
use Rattle.vrf_bitio.proofs.Laws.Cases.{at_most}
use Rattle.vrf_text.specs.Utf8.{In, UTF8-tail, UTF8-char, UTF8-octets, nil, char, Lead, asks, bad, lead, within, utf8_from, utf8, UTF8-1, UTF8-2, UTF8-3-E0, UTF8-3-E1, UTF8-3-ED, UTF8-3-EE}
use Rattle.vrf_text.specs.Utf8.{UTF8-4-F0, UTF8-4-F1, UTF8-4-F4}

-- ---- one byte

-- a lead byte and the tail bytes that it requires
pub utf8-lead : (a : ℕ) {n lo hi : ℕ} (l : List ℕ) → lead a ≡ asks n lo hi → utf8 (a ∷ l) ≡ utf8_from n lo hi l
unfolding utf8 utf8_from
utf8-lead a l e = rw (e, utf8_from)

pub utf8-bad : (a : ℕ) (l : List ℕ) → lead a ≡ bad → utf8 (a ∷ l) ≡ false
unfolding utf8 utf8_from
utf8-bad a l e = rw (e, utf8_from)

-- a tail byte where one is required
pub utf8-tail : (due : ℕ) {lo hi b : ℕ} (l : List ℕ) → In lo hi b → utf8_from (suc due) lo hi (b ∷ l) ≡ utf8_from due 0x80 0xBF l
unfolding utf8_from within
utf8-tail due {lo} {hi} {b} l h = rw (le-leb lo b h.low, le-leb b hi h.high)

-- the lead bytes of each range
pub lead-1 : {a : ℕ} → In 0x00 0x7F a → lead a ≡ asks 0 0x80 0xBF
unfolding lead
lead-1 {a} h = rw (le-leb a 0x7F h.high)

pub lead-2 : {a : ℕ} → In 0xC2 0xDF a → lead a ≡ asks 1 0x80 0xBF
unfolding lead
lead-2 {a} h = rw (lt-leb a 0x7F (omega arith), lt-leb a 0xC1 (omega arith), le-leb a 0xDF h.high)

module _ (a : ℕ) where
  -- the range of the second byte, by the lead byte
  abbrev pub lo-3 : ℕ
  lo-3 = cond (eqb a 0xE0) 0xA0 0x80

  abbrev pub hi-3 : ℕ
  hi-3 = cond (eqb a 0xED) 0x9F 0xBF

  pub lead-3 : 0xE0 ≤ a → a < 0xF0 → lead a ≡ asks 2 lo-3 hi-3
  unfolding lead
  lead-3 h k =
      let P : Lead → Type 0 = λ r. r ≡ asks 2 lo-3 hi-3 in
      at_most P a 0x7F (λ q. absurd (omega arith)) λ _.
      at_most P a 0xC1 (λ q. absurd (omega arith)) λ _.
      at_most P a 0xDF (λ q. absurd (omega arith)) λ _.
      at_most P a 0xE0 (λ q. let e : a ≡ 0xE0 = omega arith in rw e) λ p.
      at_most P a 0xEC (λ q. rw (ne_eqb a 0xE0 (λ e. omega arith), ne_eqb a 0xED (λ e. omega arith))) λ p.
      at_most P a 0xED (λ q. let e : a ≡ 0xED = omega arith in rw e) λ p.
      at_most P a 0xEF (λ q. rw (ne_eqb a 0xE0 (λ e. omega arith), ne_eqb a 0xED (λ e. omega arith))) λ q. absurd (omega arith)

  abbrev pub lo-4 : ℕ
  lo-4 = cond (eqb a 0xF0) 0x90 0x80

  abbrev pub hi-4 : ℕ
  hi-4 = cond (eqb a 0xF4) 0x8F 0xBF

  pub lead-4 : 0xF0 ≤ a → a ≤ 0xF4 → lead a ≡ asks 3 lo-4 hi-4
  unfolding lead
  lead-4 h k =
      let P : Lead → Type 0 = λ r. r ≡ asks 3 lo-4 hi-4 in
      at_most P a 0x7F (λ q. absurd (omega arith)) λ _.
      at_most P a 0xC1 (λ q. absurd (omega arith)) λ _.
      at_most P a 0xDF (λ q. absurd (omega arith)) λ _.
      at_most P a 0xE0 (λ q. absurd (omega arith)) λ _.
      at_most P a 0xEC (λ q. absurd (omega arith)) λ _.
      at_most P a 0xED (λ q. absurd (omega arith)) λ _.
      at_most P a 0xEF (λ q. absurd (omega arith)) λ _.
      at_most P a 0xF0 (λ q. let e : a ≡ 0xF0 = omega arith in rw e) λ p.
      at_most P a 0xF3 (λ q. rw (ne_eqb a 0xF0 (λ e. omega arith), ne_eqb a 0xF4 (λ e. omega arith))) λ p.
      at_most P a 0xF4 (λ q. let e : a ≡ 0xF4 = omega arith in rw e) λ q. absurd (omega arith)

pub lead-E1 : {a : ℕ} → In 0xE1 0xEC a → lead a ≡ asks 2 0x80 0xBF
lead-E1 {a} h = lead-3 a (omega arith) (omega arith) ∙ rw (ne_eqb a 0xE0 (λ e. omega arith), ne_eqb a 0xED (λ e. omega arith))

pub lead-EE : {a : ℕ} → In 0xEE 0xEF a → lead a ≡ asks 2 0x80 0xBF
lead-EE {a} h = lead-3 a (omega arith) (omega arith) ∙ rw (ne_eqb a 0xE0 (λ e. omega arith), ne_eqb a 0xED (λ e. omega arith))

pub lead-F1 : {a : ℕ} → In 0xF1 0xF3 a → lead a ≡ asks 3 0x80 0xBF
lead-F1 {a} h = lead-4 a (omega arith) (omega arith) ∙ rw (ne_eqb a 0xF0 (λ e. omega arith), ne_eqb a 0xF4 (λ e. omega arith))

-- ---- the test accepts what follows the grammar

-- the test passes over a whole character of the grammar
pub utf8-char : {c : List ℕ} → UTF8-char c → (l : List ℕ) → utf8 (c ++ l) ≡ utf8 l
unfolding utf8 lead
utf8-char (UTF8-1 h) l = utf8-lead _ _ (lead-1 h)
utf8-char (UTF8-2 h i) l = utf8-lead _ _ (lead-2 h) ∙ utf8-tail 0 _ i
utf8-char (UTF8-3-E0 i j) l = utf8-lead _ _ refl ∙ utf8-tail 1 _ i ∙ utf8-tail 0 _ j
utf8-char (UTF8-3-E1 h i j) l = utf8-lead _ _ (lead-E1 h) ∙ utf8-tail 1 _ i ∙ utf8-tail 0 _ j
utf8-char (UTF8-3-ED i j) l = utf8-lead _ _ refl ∙ utf8-tail 1 _ i ∙ utf8-tail 0 _ j
utf8-char (UTF8-3-EE h i j) l = utf8-lead _ _ (lead-EE h) ∙ utf8-tail 1 _ i ∙ utf8-tail 0 _ j
utf8-char (UTF8-4-F0 i j k) l = utf8-lead _ _ refl ∙ utf8-tail 2 _ i ∙ utf8-tail 1 _ j ∙ utf8-tail 0 _ k
utf8-char (UTF8-4-F1 h i j k) l = utf8-lead _ _ (lead-F1 h) ∙ utf8-tail 2 _ i ∙ utf8-tail 1 _ j ∙ utf8-tail 0 _ k
utf8-char (UTF8-4-F4 i j k) l = utf8-lead _ _ refl ∙ utf8-tail 2 _ i ∙ utf8-tail 1 _ j ∙ utf8-tail 0 _ k

octets-append : {a : List ℕ} → UTF8-octets a → (b : List ℕ) → utf8 (a ++ b) ≡ utf8 b
octets-append nil b = refl
octets-append (char {c = c} {l = l} k o) b = rw append_assoc (utf8-char k (l ++ b) ∙ octets-append o b)

pub octets-utf8 : {l : List ℕ} → UTF8-octets l → utf8 l ≡ true
unfolding utf8 utf8_from
octets-utf8 {l} o = ap utf8 (sym (append-nil l)) ∙ octets-append o []

-- ---- what the test accepts follows the grammar

-- l begins with `due` tail bytes, the first of them between lo and hi, and then has the octets of more characters
abbrev Followed : ℕ → ℕ → ℕ → List ℕ → Type 0
Followed zero lo hi l = UTF8-octets l
Followed (suc due) lo hi [] = ⊥
Followed (suc due) lo hi (b ∷ l) = In lo hi b × Followed due 0x80 0xBF l

abbrev LeadAsks : Lead → List ℕ → Type 0
LeadAsks (asks n lo hi) l = Followed n lo hi l
LeadAsks bad l = ⊥

within_in : (lo hi b : ℕ) (r : Bool) → within lo hi b && r ≡ true → In lo hi b × (r ≡ true)
unfolding within
within_in lo hi b r e =
    let t = (and-eq-true_iff (within lo hi b) r).0 e in
    let u = (and-eq-true_iff (leb lo b) (leb b hi)).0 t.0 in
    (record { low = leb-true lo b u.0; high = leb-true b hi u.1 }, t.1)

-- a lead byte with one, two or three tail bytes, and the octets after them; k shows that they are a character
two : {a lo hi : ℕ} → ((b : ℕ) → In lo hi b → UTF8-char (a ∷ b ∷ [])) → (l : List ℕ) → Followed 1 lo hi l → UTF8-octets (a ∷ l)
two k [] f = absurd f
two k (b ∷ l) f = char (k b f.0) f.1

three : {a lo hi : ℕ} → ((b c : ℕ) → In lo hi b → UTF8-tail c → UTF8-char (a ∷ b ∷ c ∷ []))
    → (l : List ℕ) → Followed 2 lo hi l → UTF8-octets (a ∷ l)
three k [] f = absurd f
three k (b ∷ []) f = absurd f.1
three k (b ∷ c ∷ l) f = char (k b c f.0 f.1.0) f.1.1

four : {a lo hi : ℕ} → ((b c d : ℕ) → In lo hi b → UTF8-tail c → UTF8-tail d → UTF8-char (a ∷ b ∷ c ∷ d ∷ []))
    → (l : List ℕ) → Followed 3 lo hi l → UTF8-octets (a ∷ l)
four k [] f = absurd f
four k (b ∷ []) f = absurd f.1
four k (b ∷ c ∷ []) f = absurd f.1.1
four k (b ∷ c ∷ d ∷ l) f = char (k b c d f.0 f.1.0 f.1.1.0) f.1.1.1

-- a byte with the tail bytes that it requires as a lead byte
lead-char : (a : ℕ) (l : List ℕ) → LeadAsks (lead a) l → UTF8-octets (a ∷ l)
unfolding lead
lead-char a l =
    let P : Lead → Type 0 = λ r. LeadAsks r l → UTF8-octets (a ∷ l) in
    at_most P a 0x7F (λ h o. char (UTF8-1 (record { low = zero-le; high = h })) o) λ p.
    at_most P a 0xC1 (λ _ f. absurd f) λ p.
    at_most P a 0xDF (λ h. two (λ b. UTF8-2 (record { low = p; high = h })) l) λ p.
    at_most P a 0xE0 (λ h. let e : a ≡ 0xE0 = omega arith in rw e (three (λ b c. UTF8-3-E0) l)) λ p.
    at_most P a 0xEC (λ h. three (λ b c. UTF8-3-E1 (record { low = p; high = h })) l) λ p.
    at_most P a 0xED (λ h. let e : a ≡ 0xED = omega arith in rw e (three (λ b c. UTF8-3-ED) l)) λ p.
    at_most P a 0xEF (λ h. three (λ b c. UTF8-3-EE (record { low = p; high = h })) l) λ p.
    at_most P a 0xF0 (λ h. let e : a ≡ 0xF0 = omega arith in rw e (four (λ b c d. UTF8-4-F0) l)) λ p.
    at_most P a 0xF3 (λ h. four (λ b c d. UTF8-4-F1 (record { low = p; high = h })) l) λ p.
    at_most P a 0xF4 (λ h. let e : a ≡ 0xF4 = omega arith in rw e (four (λ b c d. UTF8-4-F4) l)) λ _ f. absurd f

asked : (a : ℕ) (l : List ℕ) (r : Lead) → lead a ≡ r → utf8 (a ∷ l) ≡ true
    → ((n lo hi : ℕ) → utf8_from n lo hi l ≡ true → Followed n lo hi l) → LeadAsks r l
asked a l (asks n lo hi) q e k = k n lo hi (sym (utf8-lead a l q) ∙ e)
asked a l bad q e k = absurd (false≢true (sym (utf8-bad a l q) ∙ e))

followed : (due lo hi : ℕ) (l : List ℕ) → utf8_from due lo hi l ≡ true → Followed due lo hi l
unfolding utf8_from utf8
followed zero lo hi [] e = nil
followed (suc due) lo hi [] e = let h : suc due ≡ 0 = eqb-true _ _ e in absurd (omega arith)
followed zero lo hi (b ∷ l) e = lead-char b l (asked b l (lead b) refl e (λ n lo hi. followed n lo hi l))
followed (suc due) lo hi (b ∷ l) e = let t = within_in lo hi b (utf8_from due 0x80 0xBF l) e in (t.0, followed due 0x80 0xBF l t.1)

pub utf8-octets : (l : List ℕ) → utf8 l ≡ true → UTF8-octets l
unfolding utf8
utf8-octets l e = followed 0 0x80 0xBF l e

-- ---- joined texts, ASCII, bounds

-- a valid text before b does not change whether b is valid
pub utf8_append : (a b : List ℕ) → utf8 a ≡ true → utf8 (a ++ b) ≡ utf8 b
utf8_append a b e = octets-append (utf8-octets a e) b

-- n ASCII bytes may be passed
pub utf8-ascii : (n : ℕ) (l : List ℕ) → ((i : ℕ) → i < n → get_or l i 0 ≤ 0x7F) → utf8 (drop n l) ≡ utf8 l
unfolding utf8 utf8_from
utf8-ascii zero l h = refl
utf8-ascii (suc n) [] h = refl
utf8-ascii (suc n) (b ∷ l) h =
    utf8-ascii n l (λ i p. h (suc i) (suc-le-suc p)) ∙ sym (utf8-lead b l (lead-1 (record { low = zero-le; high = h 0 (suc-le-suc zero-le) })))

pub ascii-utf8 : (l : List ℕ) → ((i : ℕ) → get_or l i 0 ≤ 0x7F) → utf8 l ≡ true
unfolding utf8 utf8_from
ascii-utf8 l h = sym (utf8-ascii (length l) l (λ i _. h i)) ∙ ap utf8 (drop-length l)

-- no byte of l is above F4
record Low (l : List ℕ) : Type 0 where
  at : (i : ℕ) → get_or l i 0 ≤ 0xF4

cons-low : {b : ℕ} {l : List ℕ} → b ≤ 0xF4 → Low l → Low (b ∷ l)
cons-low p f = record { at = elim [ zero ↦ p | suc i ↦ f.at i ] }

char-low : {c l : List ℕ} → UTF8-char c → Low l → Low (c ++ l)
char-low (UTF8-1 h) f = cons-low (omega arith) f
char-low (UTF8-2 h k) f = cons-low (omega arith) (cons-low (omega arith) f)
char-low (UTF8-3-E0 h k) f = cons-low (omega arith) (cons-low (omega arith) (cons-low (omega arith) f))
char-low (UTF8-3-E1 h i k) f = cons-low (omega arith) (cons-low (omega arith) (cons-low (omega arith) f))
char-low (UTF8-3-ED h k) f = cons-low (omega arith) (cons-low (omega arith) (cons-low (omega arith) f))
char-low (UTF8-3-EE h i k) f = cons-low (omega arith) (cons-low (omega arith) (cons-low (omega arith) f))
char-low (UTF8-4-F0 h i k) f = cons-low (omega arith) (cons-low (omega arith) (cons-low (omega arith) (cons-low (omega arith) f)))
char-low (UTF8-4-F1 g h i k) f = cons-low (omega arith) (cons-low (omega arith) (cons-low (omega arith) (cons-low (omega arith) f)))
char-low (UTF8-4-F4 h i k) f = cons-low (omega arith) (cons-low (omega arith) (cons-low (omega arith) (cons-low (omega arith) f)))

octets-low : {l : List ℕ} → UTF8-octets l → Low l
octets-low nil = record { at = λ i. zero-le }
octets-low (char k o) = char-low k (octets-low o)

pub utf8-byte : (l : List ℕ) → utf8 l ≡ true → (i : ℕ) → get_or l i 0 ≤ 0xF4
utf8-byte l e = (octets-low (utf8-octets l e)).at
