-- Laws about readers that change a book: what a sequence of two does, which bytes are read to which value, and which bytes are refused.
-- Used in Laws/ReadBack.
use Rattle.std.specs.Prelude.{◌≡◌, refl, List, [], ◌∷◌, ◌++◌, ℕ, ◌+◌, ◌*◌, ◌^◌, ◌<◌, length}
use Rattle.std.proofs.Common.{◌∙◌, subst, append_assoc, append-nil, add-zero, zero-add, add_assoc, arith, length-append}
use Rattle.vrf_bitio.specs.Reading.{Reader}
use Rattle.vrf_bitio.specs.Number.{byte, word32, encode_word32, encode_packed}
use Rattle.vrf_bitio.proofs.Laws.Reading.{Decodes}
use Rattle.vrf_bitio.proofs.Laws.Number.{word32-decodes, packed-decodes}
use Rattle.vrf_text.specs.Text.{IsText, fstring, encode_text}
use Rattle.vrf_text.proofs.Laws.Text.{fstring-encode_text}
use Rattle.vrf_model.specs.Book.{Content, Increments, no_increment, add_increments}
use Rattle.vrf_model.specs.Setting.{Step, done, refuses}
use Rattle.vrf_model.specs.Names.{number}
use Rattle.vrf_model.specs.Parser.{parsed, failed, Parser, return, bind_parsed, ◌>>=◌, parsed_read, read, parsed_step, step}

module _ {A B : Type 0} (r : Parser A) (f : A → Parser B) (pos : ℕ) (l : List ℕ) (c : Content) (t : Increments) where
  bind-took : {a : A} {p : ℕ} {m : List ℕ} {c' : Content} {t' : Increments} → r pos l c t ≡ parsed a p m c' t' → (r >>= f) pos l c t ≡ f a p m c' t'
  unfolding ◌>>=◌ bind_parsed
  bind-took e = rw e

  bind_stopped : {n a b : ℕ} {c' : Content} {t' : Increments} → r pos l c t ≡ failed n a b c' t' → (r >>= f) pos l c t ≡ failed n a b c' t'
  unfolding ◌>>=◌ bind_parsed
  bind_stopped e = rw e

-- ---- increments

pub add_none : (t : Increments) → add_increments t no_increment ≡ t
unfolding add_increments no_increment
add_none t = simp add-zero

pub none-add : (t : Increments) → add_increments no_increment t ≡ t
unfolding add_increments no_increment
none-add t = simp zero-add

pub add-add : (t m n : Increments) → add_increments (add_increments t m) n ≡ add_increments t (add_increments m n)
unfolding add_increments
add-add t m n = simp add_assoc

-- ---- encodings that are read

-- reading the bytes e at a position gives a, changes the content from c to d and adds n to the counters, whatever bytes follow
pub record ParsesToAt {A : Type 0} (pos : ℕ) (r : Parser A) (e : List ℕ) (a : A) (c d : Content) (n : Increments) : Type 0 where
  pub parse : (tail : List ℕ) (t : Increments) → r pos (e ++ tail) c t ≡ parsed a (pos + 8 * length e) tail d (add_increments t n)

-- reading the bytes e at any position gives a, changes the content from c to d and adds n to the counters
pub record ParsesTo {A : Type 0} (r : Parser A) (e : List ℕ) (a : A) (c d : Content) (n : Increments) : Type 0 where
  pub at : (pos : ℕ) → ParsesToAt pos r e a c d n

pub parses-return : {A : Type 0} (a : A) (c : Content) → ParsesTo (return a) [] a c c no_increment
unfolding return
parses-return a c = record { at = λ pos. record { parse = λ tail t. rw (add-zero, add_none t) } }

pub parses-step : {A : Type 0} (s : Content → Step A) {a : A} (c : Content) {d : Content} {n : Increments} → s c ≡ done a d n → ParsesTo (step s) [] a c d n
unfolding step parsed_step
parses-step s c {d} {n} e = record { at = λ pos. record { parse = λ tail t. rw (e, add-zero) } }

-- two readers in sequence read two encodings in sequence
pub then_at : {A B : Type 0} (pos : ℕ) {r : Parser A} (f : A → Parser B) {a : A} {b : B} {e e' : List ℕ} {c d d' : Content} {m n : Increments}
    → ParsesTo r e a c d m → ParsesToAt (pos + 8 * length e) (f a) e' b d d' n → ParsesToAt pos (r >>= f) (e ++ e') b c d' (add_increments m n)
then_at pos {r} f {a} {b} {e} {e'} {c} {d} {d'} {m} {n} h h' = record { parse = joined }
  where
    joined : (tail : List ℕ) (t : Increments) → (r >>= f) pos ((e ++ e') ++ tail) c t ≡ parsed b (pos + 8 * length (e ++ e')) tail d' (add_increments t (add_increments m n))
    joined tail t =
        let place : pos + 8 * length e + 8 * length e' ≡ pos + 8 * length (e ++ e') = rw length-append (omega arith) in
        let one = (h.at pos).parse (e' ++ tail) t in
        let two = h'.parse tail (add_increments t m) in
        rw (append_assoc, ← place, ← add-add t m n) (bind-took r f pos (e ++ (e' ++ tail)) c t one ∙ two)

pub parses-then : {A B : Type 0} {r : Parser A} (f : A → Parser B) {a : A} {b : B} {e e' : List ℕ} {c d d' : Content} {m n : Increments}
    → ParsesTo r e a c d m → ParsesTo (f a) e' b d d' n → ParsesTo (r >>= f) (e ++ e') b c d' (add_increments m n)
parses-then f {e = e} h h' = record { at = λ pos. then_at pos f h (h'.at (pos + 8 * length e)) }

-- the first reader adds nothing to the counters
pub quiet_then : {A B : Type 0} {r : Parser A} (f : A → Parser B) {a : A} {b : B} {e e' : List ℕ} {c d d' : Content} {n : Increments}
    → ParsesTo r e a c d no_increment → ParsesTo (f a) e' b d d' n → ParsesTo (r >>= f) (e ++ e') b c d' n
quiet_then {r = r} f {b = b} {e = e} {e'} {c} {d' = d'} {n} h h' = subst (ParsesTo (r >>= f) (e ++ e') b c d') (none-add n) (parses-then f h h')

-- the second reader reads nothing
pub parses-last : {A B : Type 0} {r : Parser A} (f : A → Parser B) {a : A} {b : B} {e : List ℕ} {c d d' : Content} {m n : Increments}
    → ParsesTo r e a c d m → ParsesTo (f a) [] b d d' n → ParsesTo (r >>= f) e b c d' (add_increments m n)
parses-last {r = r} f {b = b} {e = e} {c} {d' = d'} {m} {n} h h' = subst (λ (l : List ℕ). ParsesTo (r >>= f) l b c d' (add_increments m n)) (append-nil e) (parses-then f h h')

-- the second reader reads nothing and adds nothing
pub then-return : {A B : Type 0} {r : Parser A} (f : A → B) {a : A} {e : List ℕ} {c d : Content} {n : Increments} → ParsesTo r e a c d n → ParsesTo (r >>= (λ x. return (f x))) e (f a) c d n
then-return {r = r} f {a} {e} {c} {d} {n} h = subst (ParsesTo (r >>= (λ x. return (f x))) e (f a) c d) (add_none n) (parses-last _ h (parses-return (f a) d))

-- numbers and texts as the writer sends them

pub parses-read : {A : Type 0} (r : Reader A) {e : List ℕ} {a : A} → Decodes r e a → (c : Content) → ParsesTo (read r) e a c c no_increment
unfolding read parsed_read
parses-read r d c = record { at = λ pos. record { parse = λ tail t. rw (d pos tail, add_none t) } }

pub byte-decodes : (b : ℕ) → Decodes byte (b ∷ []) b
unfolding byte
byte-decodes b pos tail = refl

pub parses-byte : (b : ℕ) (c : Content) → ParsesTo (read byte) (b ∷ []) b c c no_increment
parses-byte b c = parses-read byte (byte-decodes b) c

pub parses-word : (n : ℕ) → n < 2 ^ 32 → (c : Content) → ParsesTo (read word32) (encode_word32 n) n c c no_increment
parses-word n h c = parses-read word32 (word32-decodes n h) c

pub parses-number : (n : ℕ) → n < 2 ^ 32 → (c : Content) → ParsesTo (read number) (encode_packed n) n c c no_increment
parses-number n h c = parses-read number (packed-decodes n h) c

pub parses-text : (t : List ℕ) → IsText t → (c : Content) → ParsesTo (read fstring) (encode_text t) t c c no_increment
parses-text t h c = parses-read fstring (fstring-encode_text t h) c

-- ---- encodings that are refused

-- reading the bytes e is refused, at any position and whatever bytes follow
pub record FailsWith {A : Type 0} (r : Parser A) (e : List ℕ) (c : Content) (n x y : ℕ) : Type 0 where
  pub stops : (pos : ℕ) (tail : List ℕ) (t : Increments) → (d : Content) × ((t' : Increments) × (r pos (e ++ tail) c t ≡ failed n x y d t'))

pub stops-step : {A : Type 0} (s : Content → Step A) (c : Content) {n x y : ℕ} → s c ≡ refuses n x y → FailsWith (step s) [] c n x y
unfolding step parsed_step
stops-step s c e = record { stops = λ pos tail t. (c, (t, rw e)) }

-- the first reader is refused; the bytes e' after it are not read
pub stops_first : {A B : Type 0} {r : Parser A} (f : A → Parser B) {e : List ℕ} (e' : List ℕ) {c : Content} {n x y : ℕ} → FailsWith r e c n x y → FailsWith (r >>= f) (e ++ e') c n x y
stops_first {r = r} f {e} e' {c} {n} {x} {y} h = record { stops = λ pos tail t. after pos tail t }
  where
    after : (pos : ℕ) (tail : List ℕ) (t : Increments) → (d : Content) × ((t' : Increments) × ((r >>= f) pos ((e ++ e') ++ tail) c t ≡ failed n x y d t'))
    after pos tail t =
        let one = h.stops pos (e' ++ tail) t in
        (one.0, (one.1.0, rw append_assoc (bind_stopped r f pos (e ++ (e' ++ tail)) c t one.1.1)))

-- the first reader reads its bytes and the second is refused
pub stops_then : {A B : Type 0} {r : Parser A} (f : A → Parser B) {a : A} {e e' : List ℕ} {c d : Content} {m : Increments} {n x y : ℕ} → ParsesTo r e a c d m → FailsWith (f a) e' d n x y → FailsWith (r >>= f) (e ++ e') c n x y
stops_then {r = r} f {e = e} {e'} {c} {m = m} {n} {x} {y} h h' = record { stops = λ pos tail t. after pos tail t }
  where
    after : (pos : ℕ) (tail : List ℕ) (t : Increments) → (d : Content) × ((t' : Increments) × ((r >>= f) pos ((e ++ e') ++ tail) c t ≡ failed n x y d t'))
    after pos tail t =
        let one = (h.at pos).parse (e' ++ tail) t in
        let two = h'.stops (pos + 8 * length e) tail (add_increments t m) in
        (two.0, (two.1.0, rw append_assoc (bind-took r f pos (e ++ (e' ++ tail)) c t one ∙ two.1.1)))
