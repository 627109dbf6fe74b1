-- Lemmas for the functions that write numbers, suffixes and names.
use mathlib.Core.Path.{◌≡◌, refl, sym, ap, ◌∙◌}
use mathlib.Core.List.{List, [], ◌∷◌, ◌++◌, append_assoc}
use Prim.Native.Char.{code}
use Prim.Native.Nat.{ℕ, zero, suc, ◌+◌, ◌-◌, ◌*◌, ◌/◌, ◌%◌, ◌<◌, ◌≤◌}
use native.Mathlib.Omega.{arith}
use lib.IntN.{ℤ}
use lib.ListN.{length, take, drop, set, length-append, length-set}
use lib.Seq.{length-take-le}
use mir.Facts.{to_z-of_z}
use mir.Syntax.{w32}
use mir.Val.{SFits, to_z, of_z}
use Rattle.std.specs.Prelude.{Ok, Err}
use Rattle.vrf_bitio.specs.Pasted.{pasted}
use Rattle.vrf_bitio.specs.Reasons.{number}
use Rattle.vrf_bitio.specs.declared.Refusal.{Refusal}
use Rattle.vrf_bitio.proofs.Laws.Cases.{by_order}
use Rattle.vrf_bitio.proofs.Laws.Pasted.{pasted-nil, pasted-cons, pasted-snoc, pasted-front}
use Rattle.vrf_names.specs.Names.{decimal, suffix, rendered, rendered_into}
use Rattle.vrf_names.specs.Answers.{RenderedAnswer}
use Rattle.vrf_names.specs.Inner.Suffix.{suffix_text}
use Rattle.vrf_names.proofs.Laws.Names.{decimal-one, decimal-more, decimal-some, more-length, into-long, into-short, into-fits}
use Rattle.vrf_names.specs.declared.Suffix.{Suffix}
use Rattle.vrf_names.specs.declared.Suffix.TheVariants.{Empty, Plain, Minus}

-- The k last digits of n, with leading zeros. All digits of n are `decimal n`.
unfoldable pub last_digits : ℕ → ℕ → List ℕ
last_digits zero n = []
last_digits (suc k) n = last_digits k (n / 10) ++ ((code "0" + n % 10) ∷ [])

pub all-digits : (k n : ℕ) → length (decimal n) ≡ k → last_digits k n ≡ decimal n
unfolding last_digits
all-digits zero n e = absurd (omega (arith, decimal-some n))
all-digits (suc zero) n e = by_order 10 n
    (λ many. absurd (omega (arith, more-length n many, decimal-some (n / 10))))
    λ one. let d : n % 10 ≡ n = omega arith in rw (decimal-one n one, d)
all-digits (suc (suc k)) n e = by_order 10 n
    (λ many. rw (decimal-more n many, all-digits (suc k) (n / 10) (omega (arith, more-length n many))))
    λ one. let l : length (decimal n) ≡ 1 = rw (decimal-one n one) in absurd (omega arith)

last-length : (k n : ℕ) → length (last_digits k n) ≡ k
unfolding last_digits
last-length zero n = refl
last-length (suc k) n = rw (length-append, last-length k (n / 10)) (omega arith)

-- one more digit, at the place before i
pub digit-next : (out : List ℕ) (at i rest : ℕ) → at < i → i ≤ length out
    → pasted out at (last_digits (i - at) rest) ≡ pasted (set out (i - 1) (code "0" + rest % 10)) at (last_digits (i - 1 - at) (rest / 10))
unfolding last_digits
digit-next out at zero rest h l = absurd (omega arith)
digit-next out at (suc j) rest h l =
    let more : suc j - at ≡ suc (j - at) = omega arith in
    let d : ℕ = code "0" + rest % 10 in
    let k : length (last_digits (j - at) (rest / 10)) ≡ j - at = last-length (j - at) (rest / 10) in
    let back : at + (j - at) ≡ j = omega arith in
    let last : suc j - 1 ≡ j = omega arith in
    rw (more, last) (rw (k, back) at (pasted-snoc out at d (last_digits (j - at) (rest / 10)) (rw k (omega arith))))

-- all places are written
pub digits-end : (out : List ℕ) (at i rest : ℕ) → i ≤ at → pasted out at (last_digits (i - at) rest) ≡ out
unfolding last_digits
digits-end out at i rest h = let none : i - at ≡ 0 = omega arith in rw none (pasted-nil out at)

-- a suffix written to a buffer
module _ (out : List ℕ) (at : ℕ) {s : Suffix} where
  pub put-empty : s ≡ Empty → out ≡ pasted out at (suffix_text s)
  put-empty e = rw e (sym (pasted-nil out at))

  module _ {n : ℕ} (h : at + length (suffix_text s) ≤ length out) where
    plain-space : s ≡ Plain n → at + (1 + length (decimal n)) ≤ length out
    plain-space e = let g : at + suc (length (decimal n)) ≤ length out = rw e at h in omega arith

    pub put-plain : s ≡ Plain n → {o : List ℕ} → o ≡ pasted (set out at (code "_")) (at + 1) (decimal n) → o ≡ pasted out at (suffix_text s)
    put-plain e eo = eo ∙ rw e (sym (pasted-cons out at (code "_") (decimal n) (omega (arith, plain-space e))))

    minus-space : s ≡ Minus n → at + (2 + length (decimal n)) ≤ length out
    minus-space e = let g : at + suc (suc (length (decimal n))) ≤ length out = rw e at h in omega arith

    pub put-minus : s ≡ Minus n → {o : List ℕ} → o ≡ pasted (set (set out at (code "_")) (at + 1) (code "-")) (at + 2) (decimal n) → o ≡ pasted out at (suffix_text s)
    put-minus e eo =
        let two : at + 2 ≡ at + 1 + 1 = omega arith in
        let a : at < length out = omega (arith, minus-space e) in
        let b : at + 1 < length (set out at (code "_")) = rw length-set (omega (arith, minus-space e)) in
        eo ∙ rw (e, two) (sym (pasted-cons out at (code "_") (code "-" ∷ decimal n) a ∙ pasted-cons (set out at (code "_")) (at + 1) (code "-") (decimal n) b))

-- the answer for a text t of len bytes: it is too long, the buffer of m bytes is too short, or it is written
module _ (m : ℕ) (t before : List ℕ) {len : ℕ} (en : len ≡ length t) where
  pub answer-long : (e : Refusal) → 4096 < len → (number e.reason ≡ 41) × (e.a ≡ len) × (e.b ≡ 0) → RenderedAnswer (rendered_into m t) before before (Err e)
  answer-long e h k = rw (into-long m t (omega arith)) (record { answer = rw (k.0, k.1, k.2, en); bytes = refl })

  pub answer-short : (e : Refusal) → len ≤ 4096 → m < len → (number e.reason ≡ 15) × (e.a ≡ 8 * len) × (e.b ≡ 8 * m) → RenderedAnswer (rendered_into m t) before before (Err e)
  answer-short e l h k = rw (into-short m t (omega arith) (omega arith)) (record { answer = rw (k.0, k.1, k.2, en); bytes = refl })

  pub answer-fits : len ≤ 4096 → len ≤ m → {after : List ℕ} → after ≡ pasted before 0 t → RenderedAnswer (rendered_into m t) before after (Ok len)
  answer-fits l h ea = rw (into-fits m t (omega arith) (omega arith), ea) (record { answer = (t, (refl, en)); bytes = refl })

-- a signed number is passed as its bits, and the callee gets the same number
as_passed : (z : ℤ) → SFits w32 z → {t : List ℕ} → t ≡ suffix (to_z w32 (of_z w32 z)) → t ≡ suffix z
as_passed z h e = e ∙ ap suffix (to_z-of_z h)

-- a buffer after a suffix is written after its first n bytes
written : (out : List ℕ) (n : ℕ) (z : ℤ) (s : Suffix) → suffix_text s ≡ suffix z → {r : ℕ} → r ≡ length (suffix_text s)
    → pasted out n (suffix_text s) ≡ rendered (take n out) z ++ drop (n + r) out
unfolding rendered pasted
written out n z s e er = rw (er, e, append_assoc)

-- a base text at the front of a buffer, with its suffix
module _ (out : List ℕ) (n : ℕ) (base : n ≤ length out) (z : ℤ) (fits : SFits w32 z) (s : Suffix) (e : suffix_text s ≡ suffix (to_z w32 (of_z w32 z))) {r : ℕ} (er : r ≡ length (suffix_text s)) where
  abbrev name : List ℕ
  name = rendered (take n out) z

  long : n + r ≡ length name
  unfolding rendered
  long = rw (er, as_passed z fits e, length-append, length-take-le n out base)

  pub append-long : (q : Refusal) → 4096 < n + r → (number q.reason ≡ 41) × (q.a ≡ n + r) × (q.b ≡ 0) → RenderedAnswer (rendered_into (length out) name) out out (Err q)
  append-long q h k = answer-long (length out) name out long q h k

  pub append-short : (q : Refusal) → n + r ≤ 4096 → length out < n + r → (number q.reason ≡ 15) × (q.a ≡ 8 * (n + r)) × (q.b ≡ 8 * length out)
      → RenderedAnswer (rendered_into (length out) name) out out (Err q)
  append-short q l h k = answer-short (length out) name out long q l h k

  pub append-fits : n + r ≤ 4096 → n + r ≤ length out → {p : List ℕ} → p ≡ pasted out n (suffix_text s)
      → RenderedAnswer (rendered_into (length out) name) out p (Ok (n + r))
  append-fits l h ep =
      let front : pasted out n (suffix_text s) ≡ pasted out 0 name = written out n z s (as_passed z fits e) er ∙ rw long (sym (pasted-front out name)) in
      answer-fits (length out) name out long l h (ep ∙ front)
