-- Each answer relation of `Answers` determines the answer: two answers that satisfy it, for the same reader and outcome of the definition,
-- are equal, and so are the readers after them. So a program that answers anything else, on any input, breaks its contract.
use Rattle.std.specs.Prelude.{◌≡◌, refl, Bool, true, false, cond, List, ℕ, Result, Ok, Err}
use Rattle.std.specs.Borrow.{Bor}
use Rattle.std.proofs.Common.{sym, ap, ◌∙◌, arith}
use Rattle.vrf_bitio.proofs.Laws.Cases.{clash}
use Rattle.vrf_bitio.proofs.Laws.Reasons.{same_number}
use Rattle.vrf_bitio.specs.Reading.{Read, ok, refused}
use Rattle.vrf_bitio.specs.Reasons.{number}
use Rattle.vrf_bitio.specs.Pasted.{pasted}
use Rattle.vrf_bitio.specs.Answers.{Gave, Refuses, AnswersAs, Answers, Opens, InnerAnswer, CopiedAnswer}
use Rattle.vrf_bitio.specs.declared.BitReader.{BitReader}
use Rattle.vrf_bitio.specs.declared.Refusal.{Refusal}

same-reader : (d e : BitReader) → d.«data» ≡ e.«data» → d.first ≡ e.first → d.count ≡ e.count → d.pos ≡ e.pos → d ≡ e
same-reader d e s f n p = λ i. record { «data» = s i; first = f i; count = n i; pos = p i }

-- refusals with the same number and details are equal
pub same-details : (r q : Refusal) → number r.reason ≡ number q.reason → r.a ≡ q.a → r.b ≡ q.b → r ≡ q
same-details r q n a b = let k = same_number r.reason q.reason n in λ i. record { reason = k i; a = a i; b = b i }

module _ {A : Type 0} (x : Read A) where
  -- one outcome has one value and one reader after it
  pub same-value : {r : BitReader} {v w : A} {d e : BitReader} → Gave r x v d → Gave r x w e → (v ≡ w) × (d ≡ e)
  same-value {d = d} {e} g h =
      (cc (g.read, h.read), same-reader d e (cc (g.same, h.same)) (cc (g.first, h.first)) (cc (g.count, h.count)) (cc (g.read, h.read)))

  -- one outcome has one refusal
  pub same-refusal : {r q : Refusal} → Refuses x r → Refuses x q → r ≡ q
  same-refusal {r} {q} e f = same-details r q (cc) (cc) cc

  -- no outcome is both a value and a refusal
  not-both : {v : A} {p n a b : ℕ} {m : List ℕ} → x ≡ ok v p m → x ≡ refused n a b → ⊥
  not-both e f = clash (cc)

-- for a view that takes different values apart
module _ {A B : Type 0} (view : B → A) (apart : (v w : B) → view v ≡ view w → v ≡ w) (r : BitReader) (x : Read A) where
  pub view-determined : (d e : BitReader) (p q : Result B Refusal) → AnswersAs view r d x p → AnswersAs view r e x q → (p ≡ q) × (d ≡ e)
  view-determined d e (Ok v) (Ok w) g h = let same = same-value x g h in (ap Ok (apart v w same.0), same.1)
  view-determined d e (Err p) (Err q) g h = (ap Err (same-refusal x g.0 h.0), g.1 ∙ sym h.1)
  view-determined d e (Ok v) (Err q) g h = absurd (not-both x g.read h.0)
  view-determined d e (Err p) (Ok w) g h = absurd (not-both x h.read g.0)

pub determined : {A : Type 0} (r : BitReader) (x : Read A) (d e : BitReader) (p q : Result A Refusal) → Answers r d x p → Answers r e x q → (p ≡ q) × (d ≡ e)
determined = view-determined (λ v. v) (λ v w e. e)

same_bit : (v w : Bool) → cond {A = ℕ} v 1 0 ≡ cond w 1 0 → v ≡ w
same_bit true true e = refl
same_bit false false e = refl
same_bit true false e = absurd (omega arith)
same_bit false true e = absurd (omega arith)

pub bit-determined : (r : BitReader) (x : Read ℕ) (d e : BitReader) (p q : Result Bool Refusal)
    → AnswersAs (λ v. cond v 1 0) r d x p → AnswersAs (λ v. cond v 1 0) r e x q → (p ≡ q) × (d ≡ e)
bit-determined = view-determined (λ v. cond v 1 0) same_bit

pub opens-determined : (s : Bor (List ℕ)) (x : Read (ℕ × ℕ)) (p q : Result BitReader Refusal) → Opens s x p → Opens s x q → p ≡ q
opens-determined s x (Ok c) (Ok d) e f =
    let window : ◌≡◌ {A = ℕ × ℕ} (c.first, c.count) (d.first, d.count) = cc (e.1, f.1) in
    ap Ok (same-reader c d (e.0 ∙ sym f.0) (ap (λ (w : ℕ × ℕ). w.0) window) (ap (λ (w : ℕ × ℕ). w.1) window) (cc (e.1, f.1)))
opens-determined s x (Err r) (Err q) e f = ap Err (same-refusal x e f)
opens-determined s x (Ok c) (Err q) e f = absurd (not-both x e.1 f)
opens-determined s x (Err r) (Ok d) e f = absurd (not-both x f.1 e)

module _ (r d e : BitReader) where
  pub inner-determined : (x : Read (ℕ × ℕ)) (p q : Result BitReader Refusal) → InnerAnswer r d x p → InnerAnswer r e x q → (p ≡ q) × (d ≡ e)
  inner-determined x (Ok i) (Ok j) g h =
      let same = same-value x g.0 h.0 in
      (ap Ok (same-reader i j (g.1.1 ∙ sym h.1.1) (ap (λ (w : ℕ × ℕ). w.0) same.0) (ap (λ (w : ℕ × ℕ). w.1) same.0) (g.1.0 ∙ sym h.1.0)), same.1)
  inner-determined x (Err p) (Err q) g h = (ap Err (same-refusal x g.0 h.0), g.1 ∙ sym h.1)
  inner-determined x (Ok i) (Err q) g h = absurd (not-both x g.0.read h.0)
  inner-determined x (Err p) (Ok j) g h = absurd (not-both x h.0.read g.0)

  -- for a copy, the target's new bytes are determined too
  pub copied-determined : (x : Read (List ℕ)) (before after after' : List ℕ) (p q : Result (Unit {0}) Refusal)
      → CopiedAnswer r d x before after p → CopiedAnswer r e x before after' q → (p ≡ q) × ((d ≡ e) × (after ≡ after'))
  copied-determined x before after after' (Ok u) (Ok v) g h =
      let same = same-value x g.1.0 h.1.0 in
      (refl, (same.1, g.1.1 ∙ ap (pasted before 0) same.0 ∙ sym h.1.1))
  copied-determined x before after after' (Err p) (Err q) g h = (ap Err (same-refusal x g.0 h.0), (g.1.0 ∙ sym h.1.0, g.1.1 ∙ sym h.1.1))
  copied-determined x before after after' (Ok u) (Err q) g h = absurd (not-both x g.1.0.read h.0)
  copied-determined x before after after' (Err p) (Ok v) g h = absurd (not-both x h.1.0.read g.0)
