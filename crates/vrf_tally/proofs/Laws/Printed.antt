-- Texts printed one after another: a line, several lines, and the whole answer. The proofs of the `put_` functions use these laws.
use Rattle.std.specs.Prelude.{◌≡◌, refl, List, [], ◌∷◌, ◌++◌, ℕ, ◌+◌, ◌<◌, ◌≤◌, length, set}
use Rattle.std.proofs.Common.{sym, ap, ◌∙◌, append_assoc, append-nil, arith, length-append}
use Prim.Native.String.{String}
use Rattle.vrf_bitio.specs.Ascii.{ascii}
use Rattle.vrf_bitio.specs.Pasted.{pasted}
use Rattle.vrf_bitio.proofs.Laws.Pasted.{pasted-nil, pasted-cons, pasted-append, pasted_length}
use Rattle.vrf_names.specs.Names.{decimal}
use Rattle.vrf_names.specs.Answers.{put_into}
use Rattle.vrf_names.proofs.Laws.Names.{put-fits}
use Rattle.vrf_model.specs.Block.{BlockCounts}
use Rattle.vrf_tally.specs.Tally.{line, lines, count_lines, refusal_lines}
use Rattle.vrf_tally.specs.Printed.{Printed}
use Rattle.vrf_tally.specs.Inner.Counts.{held_counts, path_counts}

put-long : {x l l₁ : List ℕ} {at r : ℕ} → Printed x l at l₁ r → length l₁ ≡ length l
put-long {x} {l} {at = at} p = ap length p.bytes ∙ pasted_length x l at (omega (arith, p.count, p.fits))

-- one text after another
put-append : {x y l l₁ l₂ : List ℕ} {at a₁ a₂ : ℕ} → Printed x l at l₁ a₁ → Printed y l₁ a₁ l₂ a₂ → Printed (x ++ y) l at l₂ a₂
put-append {x} {y} {l} {at = at} {a₁} p q = record {
  count = omega (arith, p.count, q.count, length-append x y);
  fits = omega (arith, q.fits, put-long p);
  bytes = q.bytes ∙ rw p.bytes (pasted-append x y l at a₁ p.count p.fits);
}

-- a single line, and a line before others
last-put : (name : String) (n : ℕ) {l l₁ : List ℕ} {at a₁ : ℕ} → Printed (line (ascii name) n) l at l₁ a₁
    → Printed (lines ((name, n) ∷ [])) l at l₁ a₁
unfolding lines
last-put name n p = rw (append-nil (line (ascii name) n)) p

next-put : (name : String) (n : ℕ) (more : List (String × ℕ)) {l l₁ l₂ : List ℕ} {at a₁ a₂ : ℕ}
    → Printed (line (ascii name) n) l at l₁ a₁ → Printed (lines more) l₁ a₁ l₂ a₂ → Printed (lines ((name, n) ∷ more)) l at l₂ a₂
unfolding lines
next-put name n more p q = put-append p q

lines-append : (x y : List (String × ℕ)) → lines (x ++ y) ≡ lines x ++ lines y
unfolding lines
lines-append [] y = refl
lines-append ((name, n) ∷ x) y = rw (lines-append x y) (sym (append_assoc (line (ascii name) n) (lines x) (lines y)))

module _ {l l₁ l₂ l₃ : List ℕ} {at a₁ a₂ a₃ : ℕ} where
  pub refusal-put : (n a b : ℕ) → Printed (line (ascii "refusal") n) l at l₁ a₁ → Printed (line (ascii "a") a) l₁ a₁ l₂ a₂
      → Printed (line (ascii "b") b) l₂ a₂ l₃ a₃
      → Printed (refusal_lines n a b) l at l₃ a₃
  unfolding refusal_lines
  refusal-put n a b p q r = next-put "refusal" n _ p (next-put "a" a _ q (last-put "b" b r))

  pub paths-put : (c : BlockCounts) → Printed (line (ascii "indexed") c.indexed) l at l₁ a₁
      → Printed (line (ascii "literals") c.literals) l₁ a₁ l₂ a₂ → Printed (line (ascii "resolved") c.resolved) l₂ a₂ l₃ a₃
      → Printed (lines (path_counts c)) l at l₃ a₃
  paths-put c p q r = next-put "indexed" _ _ p (next-put "literals" _ _ q (last-put "resolved" _ r))

  pub held-put : (c : BlockCounts) {l₄ : List ℕ} {a₄ : ℕ} → Printed (line (ascii "guids") c.guids) l at l₁ a₁
      → Printed (line (ascii "groups") c.groups) l₁ a₁ l₂ a₂ → Printed (line (ascii "fields") c.fields) l₂ a₂ l₃ a₃
      → Printed (line (ascii "frame") c.frame) l₃ a₃ l₄ a₄
      → Printed (lines (held_counts c)) l at l₄ a₄
  held-put c p q r s = next-put "guids" _ _ p (next-put "groups" _ _ q (next-put "fields" _ _ r (last-put "frame" _ s)))

pub counts-put : (c : BlockCounts) {l l₁ l₂ : List ℕ} {at a₁ a₂ : ℕ}
    → Printed (lines (held_counts c)) l at l₁ a₁ → Printed (lines (path_counts c)) l₁ a₁ l₂ a₂ → Printed (count_lines c) l at l₂ a₂
unfolding count_lines
counts-put c p q = rw (lines-append (held_counts c) (path_counts c)) (put-append p q)

-- a line is written in four parts: its name, `=`, its digits, a line end
pasted-put : {t l l₁ : List ℕ} {at r : ℕ} → l₁ ≡ pasted l at t → r ≡ at + length t → r ≤ length l → Printed t l at l₁ r
pasted-put e c f = record { count = c; fits = f; bytes = e }

byte_put : (b : ℕ) (l : List ℕ) (at : ℕ) → at < length l → Printed (b ∷ []) l at (set l at b) (at + 1)
byte_put b l at h = record {
  count = omega arith;
  fits = omega arith;
  bytes = sym (pasted-cons l at b [] h ∙ pasted-nil (set l at b) (at + 1));
}

pub line-put : (name : List ℕ) (n : ℕ) {l l₁ l₂ : List ℕ} (at : ℕ) {digits : ℕ} → at + length name + digits + 2 ≤ length l
    → l₁ ≡ pasted l at name → l₂ ≡ put_into (set l₁ (at + length name) 61) (at + length name + 1) (decimal n) → digits ≡ length (decimal n)
    → Printed (line name n) l at (set l₂ (at + length name + 1 + digits) 10) (at + length name + 1 + digits + 1)
unfolding line
line-put name n {l₁ = l₁} {l₂} at {digits} space e₁ e₂ e =
    let named = pasted-put e₁ refl (omega arith) in
    let signed = byte_put 61 l₁ (at + length name) (omega (arith, put-long named)) in
    let fits = put-fits (set l₁ (at + length name) 61) (decimal n) (at + length name + 1) (omega (arith, put-long named, put-long signed)) in
    let numbered = pasted-put (e₂ ∙ fits) (ap (λ (d : ℕ). at + length name + 1 + d) e) (omega (arith, put-long named, put-long signed)) in
    let ended = byte_put 10 l₂ (at + length name + 1 + digits) (omega (arith, put-long named, put-long signed, put-long numbered)) in
    put-append named (put-append signed (put-append numbered ended))
