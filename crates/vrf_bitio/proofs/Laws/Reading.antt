-- Laws of successive readings, and of encodings that a reading decodes.
use Rattle.std.specs.Prelude.{◌≡◌, List, [], ◌++◌, ℕ, ◌+◌, ◌*◌, length}
use Rattle.std.proofs.Common.{sym, ap, ◌∙◌, subst, append_assoc, append-nil, add-zero, arith, length-append}
use Rattle.vrf_bitio.specs.Reading.{ok, refused, Reader, return, bind_read, ◌>>=◌}

module _ {A B : Type 0} (r : Reader A) (f : A → Reader B) (pos : ℕ) (l : List ℕ) where
  pub bind_ok : {a : A} {p : ℕ} {m : List ℕ} → r pos l ≡ ok a p m → (r >>= f) pos l ≡ f a p m
  unfolding ◌>>=◌ bind_read
  bind_ok e = rw e

  pub bind-refused : {n a b : ℕ} → r pos l ≡ refused n a b → (r >>= f) pos l ≡ refused n a b
  unfolding ◌>>=◌ bind_read
  bind-refused e = rw e

-- A round trip: the reading r gives the value a for the bytes e, at any position and with any bytes after them.
abbrev pub Decodes : {A : Type 0} → Reader A → List ℕ → A → Type 0
Decodes r e a = (pos : ℕ) (tail : List ℕ) → r pos (e ++ tail) ≡ ok a (pos + 8 * length e) tail

pub decodes-return : {A : Type 0} (a : A) → Decodes (return a) [] a
unfolding return
decodes-return a pos tail = ap (λ (p : ℕ). ok a p tail) (sym (add-zero pos))

-- two encodings, one after the other
pub decodes-then : {A B : Type 0} (r : Reader A) (f : A → Reader B) {a : A} {b : B} (e e' : List ℕ) → Decodes r e a → Decodes (f a) e' b → Decodes (r >>= f) (e ++ e') b
decodes-then r f {a} {b} e e' d d' pos tail =
    let place : pos + 8 * length e + 8 * length e' ≡ pos + 8 * length (e ++ e') = rw length-append (omega arith) in
    rw append_assoc (bind_ok r f pos (e ++ (e' ++ tail)) (d pos (e' ++ tail)) ∙ d' (pos + 8 * length e) tail ∙ ap (λ (p : ℕ). ok b p tail) place)

-- an encoding after which nothing more is read
pub decodes-last : {A B : Type 0} (r : Reader A) (f : A → Reader B) {a : A} {b : B} (e : List ℕ) → Decodes r e a → Decodes (f a) [] b → Decodes (r >>= f) e b
decodes-last r f {a} {b} e d d' = subst (λ (l : List ℕ). Decodes (r >>= f) l b) (append-nil e) (decodes-then r f e [] d d')
