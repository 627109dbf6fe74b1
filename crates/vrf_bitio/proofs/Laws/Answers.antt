-- Answers of successive readings: each reading starts at the reader that the one before it left. For the proofs of functions that read
-- several values.
use Rattle.std.specs.Prelude.{◌≡◌, refl, ℕ, Result, Ok, Err}
use Rattle.std.proofs.Common.{◌∙◌}
use Rattle.vrf_bitio.specs.Reading.{Read, refused, Reader, return, ◌>>=◌}
use Rattle.vrf_bitio.specs.Answers.{rest_of, read_here, Gave, Refuses}
use Rattle.vrf_bitio.proofs.Laws.Reading.{bind_ok, bind-refused}
use Rattle.vrf_bitio.specs.declared.BitReader.{BitReader}
use Rattle.vrf_bitio.specs.declared.Refusal.{Refusal}

module _ {A B : Type 0} (r : BitReader) (f : Reader A) (g : A → Reader B) where
  pub refused-first : {n a b : ℕ} → read_here r f ≡ refused n a b → read_here r (f >>= g) ≡ refused n a b
  refused-first e = bind-refused f g r.pos (rest_of r) e

  pub refused-then : {v : A} {d : BitReader} {n a b : ℕ} → Gave r (read_here r f) v d → read_here d (g v) ≡ refused n a b → read_here r (f >>= g) ≡ refused n a b
  refused-then h e = bind_ok f g r.pos (rest_of r) h.read ∙ e

  pub gave_then : {v : A} {d : BitReader} {u : B} {e : BitReader} → Gave r (read_here r f) v d → Gave d (read_here d (g v)) u e → Gave r (read_here r (f >>= g)) u e
  gave_then h k = record {
    read = bind_ok f g r.pos (rest_of r) h.read ∙ k.read;
    same = k.same ∙ h.same;
    first = k.first ∙ h.first;
    count = k.count ∙ h.count;
  }

pub gave-return : {A : Type 0} (r : BitReader) (v : A) → Gave r (read_here r (return v)) v r
unfolding return
gave-return r v = record { read = refl; same = refl; first = refl; count = refl }

-- as `Answers`, but a refusal does not say where the reader is
abbrev pub AnsweredIn : {A : Type 0} → BitReader → BitReader → Read A → Result A Refusal → Type 0
AnsweredIn r e x (Ok v) = Gave r x v e
AnsweredIn r e x (Err q) = Refuses x q

-- an answer at a later reader d of the same window is the answer at r, if the rest read at d yields what the whole yields at r
pub word-from : {A : Type 0} (r d e : BitReader) (x : Read A) {y : Read A} → d.«data» ≡ r.«data» → d.first ≡ r.first → d.count ≡ r.count → y ≡ x
    → (o : Result A Refusal) → AnsweredIn d e x o → AnsweredIn r e y o
word-from r d e x es ef en same (Ok v) g = record { read = same ∙ g.read; same = g.same ∙ es; first = g.first ∙ ef; count = g.count ∙ en }
word-from r d e x es ef en same (Err q) f = same ∙ f
