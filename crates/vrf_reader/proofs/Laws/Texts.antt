-- Texts and field names, read into a scratch buffer of 4,096 bytes. Used by the proofs of `names`.
use Rattle.std.specs.Prelude.{◌≡◌, refl, List, ℕ, Result, Ok, Err, ◌^◌, ◌≤◌, ◌<◌, eqb, ℤ, length, take}
use Rattle.std.specs.Result.{IsErrAnd}
use Rattle.std.proofs.Common.{sym, ap, subst, ◌∙◌, arith, length-take-le, lt-ltb, le-ltb, eq-eqb, ne_eqb}
use Rattle.std.proofs.Math.Bool.{cond}
use Rattle.std.proofs.Math.Seq.{take-append_seam}
use Rattle.vrf_bitio.specs.Bits.{Bytes}
use Rattle.vrf_bitio.specs.Reading.{Read, ok, refused as not-read, Reader, return, bind_read, ◌>>=◌}
use Rattle.vrf_bitio.specs.Window.{rest}
use Rattle.vrf_bitio.specs.Number.{byte, int32, packed}
use Rattle.vrf_bitio.specs.Pasted.{pasted}
use Rattle.vrf_bitio.specs.Answers.{rest_of, read_here, Gave, Refuses}
use Rattle.vrf_bitio.proofs.Laws.Cases.{by_order, clash}
use Rattle.vrf_bitio.proofs.Laws.Pasted.{pasted-front, pasted_length}
use Rattle.vrf_bitio.proofs.Laws.Answers.{refused-first, refused-then, gave_then, gave-return}
use Rattle.vrf_bitio.specs.declared.BitReader.{BitReader}
use Rattle.vrf_bitio.specs.declared.Refusal.{Refusal}
use Rattle.vrf_text.specs.Text.{IsText, fstring, into_target, fstring_into}
use Rattle.vrf_text.specs.Answers.{TextAnswer}
use Rattle.vrf_text.proofs.Laws.Text.{fstring-text}
use Rattle.vrf_names.specs.Names.{decimal, rendered, named, rendered_into}
use Rattle.vrf_names.specs.Answers.{RenderedAnswer}
use Rattle.vrf_names.proofs.Laws.Names.{decimal-length, into-long, into-short, into-fits}
use Rattle.vrf_model.specs.Names.{limited, text_name, index_name, fname}
use Rattle.vrf_model.proofs.Laws.Readings.{bytes_of-bytes, Gives, ReadsBytes, fstring-reads}
use Rattle.vrf_reader.specs.Inner.Texts.{TextRead, TextIn}

-- a reading, then a text
onward : {A : Type 0} (f : Reader A) (g : A → Reader (List ℕ)) {r d : BitReader} {v : A} → Gave r (read_here r f) v d
    → (e : BitReader) (scratch : List ℕ) (o : Result ℕ Refusal) → TextIn d e (read_here d (g v)) scratch o → TextIn r e (read_here r (f >>= g)) scratch o
onward f g {r} h e scratch (Ok n) t = record { text = t.text; gave = gave_then r f g h t.gave; here = t.here; fits = t.fits }
onward f g {r} h e scratch (Err q) t = refused-then r f g h t

-- a reader of texts that answers with `?` what a call refused
pub text-passed-on : {x : Read (List ℕ)} (r d : BitReader) (scratch : List ℕ) (q : Refusal) (o : Result ℕ Refusal)
    → IsErrAnd o (λ e. e ≡ q) → Refuses x q → TextIn r d x scratch o
text-passed-on r d scratch q (Err e) same h = rw same h
text-passed-on r d scratch q (Ok n) none h = absurd none

-- ---- texts

rest-bytes : (r : BitReader) → Bytes (rest_of r)
unfolding rest
rest-bytes r = bytes_of-bytes r.«data».now _ _

-- a property of the values read from bytes holds of a value read at a reader
given : {A : Type 0} {P : A → Type 0} {f : Reader A} → ReadsBytes P f → {r d : BitReader} {v : A} → Gave r (read_here r f) v d → P v
given {P = P} h {r} g = (subst (Gives P) g.read (h.gives r.pos (rest_of r) (rest-bytes r))).0

pub text-is-text : {r d : BitReader} {t : List ℕ} → Gave r (read_here r fstring) t d → IsText t
text-is-text g = given fstring-reads g

-- a text in the scratch buffer
module _ {r d : BitReader} {scratch : List ℕ} {n : ℕ} where
  pub scratch-gave : {x : Read (List ℕ)} → TextRead r x scratch n d → Gave r x (take n scratch) d
  scratch-gave t = rw t.here t.gave

  pub scratch-length : {x : Read (List ℕ)} → TextRead r x scratch n d → n ≡ length (take n scratch)
  scratch-length t = sym (length-take-le n scratch t.fits)

  pub scratch-text : {f : Reader (List ℕ)} → ReadsBytes IsText f → TextRead r (read_here r f) scratch n d → IsText (take n scratch)
  scratch-text h t = given h (scratch-gave t)

-- every accepted text fits a scratch buffer of 4,096 bytes
into-all : (n : ℕ) → 4096 ≤ n → (pos : ℕ) (l : List ℕ) → Bytes l → fstring_into n pos l ≡ fstring pos l
unfolding fstring_into into_target ◌>>=◌ bind_read
into-all n h pos l b = go (fstring pos l) refl
  where
    go : (x : Read (List ℕ)) → fstring pos l ≡ x → bind_read (into_target n) x ≡ x
    go (ok t p m) e = rw (le-ltb n (length t) (omega (arith, (fstring-text pos l b e).short)))
    go (not-read a x y) e = refl

-- a buffer that a text was pasted into begins with it
front : (scratch : List ℕ) {r d : BitReader} {x : Read (List ℕ)} {after t : List ℕ} {n : ℕ} → Gave r x t d → n ≡ length t → length t ≤ length scratch
    → after ≡ pasted scratch 0 t → TextRead r x after n d
front scratch {t = t} g few small bytes = record {
  text = t;
  gave = g;
  here = rw (bytes, pasted-front scratch t, few) (take-append_seam t _);
  fits = omega (arith, few, ap (λ (x : List ℕ). length x) bytes, pasted_length t scratch 0 (omega arith));
}

pub text_in : (r d : BitReader) (scratch after : List ℕ) → 4096 ≤ length scratch → (o : Result ℕ Refusal)
    → TextAnswer r d (read_here r (fstring_into (length scratch))) scratch after o → TextIn r d (read_here r fstring) after o
text_in r d scratch after h (Ok n) a =
    let all = into-all (length scratch) h r.pos (rest_of r) (rest-bytes r) in
    let g : Gave r (read_here r fstring) a.0 d = subst (λ (x : Read (List ℕ)). Gave r x a.0 d) all a.1.0 in
    front scratch g a.1.1.0 (omega (arith, (text-is-text g).short)) a.1.1.1
text_in r d scratch after h (Err q) a = sym (into-all (length scratch) h r.pos (rest_of r) (rest-bytes r)) ∙ a.0

-- ---- names

-- a rendered name of at most 4,096 bytes, in a buffer with room for it
into-named : (m : ℕ) (text t : List ℕ) → rendered_into m text ≡ named t → (text ≡ t) × (length text ≤ 4096)
into-named m text t e =
    by_order (length text) 4096
    (λ few. by_order (length text) m (λ fits. let e' = sym (into-fits m text few fits) ∙ e in (cc, few)) (λ long. clash (cc (into-short m text few long, e))))
    (λ long. clash (cc (into-long m text long, e)))

-- the length of a rendered name is at most 4,096
small-answer : (m : ℕ) (text t : List ℕ) → rendered_into m text ≡ named t → length t ≤ 4096
small-answer m text t e = let both = into-named m text t e in omega (arith, both.1, ap (λ (x : List ℕ). length x) both.0)

pub is-small : (text : List ℕ) {scratch after : List ℕ} {n : ℕ} → RenderedAnswer (rendered_into (length scratch) text) scratch after (Ok n) → n ≤ 4096
is-small text {scratch} a = omega (arith, small-answer (length scratch) text a.answer.0 a.answer.1.0, a.answer.1.1)

-- a name is limited to 4,096 bytes
module _ (t : List ℕ) where
  limited-few : length t ≤ 4096 → limited t ≡ return t
  unfolding limited
  limited-few few = rw (le-ltb 4096 (length t) few)

  limited-long : 4096 < length t → (pos : ℕ) (l : List ℕ) → limited t pos l ≡ not-read 41 (length t) 0
  unfolding limited
  limited-long long pos l = rw (lt-ltb 4096 (length t) long)

-- a rendered text as the answer of its reading; a scratch buffer of 4,096 bytes is never too short
module _ (r : BitReader) (scratch after text : List ℕ) (h : 4096 ≤ length scratch) where
  rendered-in : (o : Result ℕ Refusal) → RenderedAnswer (rendered_into (length scratch) text) scratch after o → TextIn r r (read_here r (limited text)) after o
  rendered-in (Ok n) a =
      let few = (into-named (length scratch) text a.answer.0 a.answer.1.0).1 in
      let into = into-fits (length scratch) text few (omega arith) in
      let many : n ≡ length text = omega (arith, a.answer.1.1, ap (λ (x : List ℕ). length x) (into-named (length scratch) text a.answer.0 a.answer.1.0).0) in
      rw (limited-few text few) (front scratch (gave-return r text) many (omega arith) (rw into at a.bytes))
  rendered-in (Err q) a =
      by_order (length text) 4096
      (λ few. clash (cc (into-fits (length scratch) text few (omega arith), a.answer)))
      (λ long. limited-long text long r.pos (rest_of r) ∙ cc (into-long (length scratch) text long, a.answer))

-- the number after a base text, and the rendered name
abbrev pub numbered : List ℕ → Reader (List ℕ)
numbered base = int32 >>= λ number. limited (rendered base number)

module _ {r d : BitReader} {scratch after : List ℕ} (h : 4096 ≤ length scratch) (o : Result ℕ Refusal) where
  numbered-in : (base : List ℕ) {z y : ℤ} → Gave r (read_here r int32) z d → y ≡ z → RenderedAnswer (rendered_into (length scratch) (rendered base y)) scratch after o
      → TextIn r d (read_here r (numbered base)) after o
  numbered-in base {z} g same a =
      onward int32 _ g d after o (rendered-in d scratch after (rendered base z) h o (rw same at a))

  -- an index in decimal, which is never too long
  pub index_in : {index : ℕ} → index < 2 ^ 32 → Gave r (read_here r packed) index d → RenderedAnswer (rendered_into (length scratch) (decimal index)) scratch after o
      → TextIn r d (read_here r index_name) after o
  unfolding index_name
  index_in {index} small g a =
      let few = limited-few (decimal index) (omega (arith, decimal-length 9 index (omega arith))) in
      onward packed (λ n. return (decimal n)) g d after o (rw few at (rendered-in d scratch after (decimal index) h o a))

-- a text, then its number
module _ {r d : BitReader} {scratch : List ℕ} {n : ℕ} (t : TextRead r (read_here r fstring) scratch n d) where
  pub numberless : (q : Refusal) → Refuses (read_here d int32) q → Refuses (read_here r text_name) q
  unfolding text_name
  numberless q e = refused-then r fstring numbered (scratch-gave t) (refused-first d int32 (λ number. limited (rendered (take n scratch) number)) e)

  pub name-after : (e : BitReader) (after : List ℕ) (o : Result ℕ Refusal) → TextIn d e (read_here d (numbered (take n scratch))) after o
      → TextIn r e (read_here r text_name) after o
  unfolding text_name
  name-after = onward fstring numbered (scratch-gave t)

  pub text_name_in : (e : BitReader) (after : List ℕ) {z y : ℤ} → 4096 ≤ length scratch → Gave d (read_here d int32) z e → y ≡ z → (o : Result ℕ Refusal)
      → RenderedAnswer (rendered_into (length scratch) (rendered (take n scratch) y)) scratch after o → TextIn r e (read_here r text_name) after o
  text_name_in e after h g same o a = name-after e after o (numbered-in h o (take n scratch) g same a)

-- the kind byte, then a name of that kind
module _ {r d : BitReader} {kind : ℕ} (g : Gave r (read_here r byte) kind d) (e : BitReader) (after : List ℕ) (o : Result ℕ Refusal) where
  pub text-kind : kind ≡ 0 → TextIn d e (read_here d text_name) after o → TextIn r e (read_here r fname) after o
  unfolding fname
  text-kind z h = onward byte (λ k. cond (eqb k 0) text_name index_name) g e after o (rw (eq-eqb kind 0 z) h)

  pub index-kind : (kind ≡ 0 → ⊥) → TextIn d e (read_here d index_name) after o → TextIn r e (read_here r fname) after o
  unfolding fname
  index-kind z h = onward byte (λ k. cond (eqb k 0) text_name index_name) g e after o (rw (ne_eqb kind 0 z) h)
