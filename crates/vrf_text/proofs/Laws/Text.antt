-- Laws of text on the wire: what is written is read back, and what is read or accepted is a text that may be held (`IsText`). Used by
-- the laws of vrf_model, vrf_reader and vrf_schema.
use Rattle.std.specs.Prelude.{◌||◌, List, [], ◌∷◌, ◌++◌, ◌≡◌, refl, ℕ, zero, suc, ◌+◌, ◌-◌, ◌*◌, ◌^◌, ◌≤◌, ◌<◌, ltb, eqb, length, get_or, take, drop}
use Rattle.std.proofs.Math.Option.{Option, none, some}
use Rattle.std.proofs.Common.{ap, subst, ◌∙◌, zero-le, arith, length-append, take_at, drop_at, lt-ltb, le-ltb, ltb-false, ne_eqb}
use Rattle.vrf_bitio.specs.Reading.{Read, ok, refused, Reader, return, position, bind_read, ◌>>=◌}
use Rattle.vrf_bitio.specs.Number.{word32, encode_word32}
use Rattle.vrf_bitio.proofs.Laws.Cases.{by_cond}
use Rattle.vrf_bitio.proofs.Laws.Reading.{bind_ok, Decodes, decodes-then}
use Rattle.vrf_bitio.proofs.Laws.Number.{word32-decodes}
use Rattle.vrf_text.specs.Utf8.{utf8, utf8_from}
use Rattle.vrf_text.specs.Utf16.{units, units_to_utf8}
use Rattle.vrf_text.specs.Text.{IsText, text_bytes, drop_zero, as_utf8, checked, text8, text16, text_of, fstring, encode_text, CallerText, accepted, refusal, caller_text}
use Rattle.vrf_text.proofs.Laws.Utf16.{InvalidOrUtf8, units-16, units_to_utf8-valid}

-- ---- what is written is read back

drop_zero-snoc : (t : List ℕ) → drop_zero (t ++ (0 ∷ [])) ≡ t
unfolding drop_zero
drop_zero-snoc [] = refl
drop_zero-snoc (x ∷ []) = refl
drop_zero-snoc (x ∷ y ∷ t) = ap (◌∷◌ x) (drop_zero-snoc (y ∷ t))

-- a text whose bytes are all there
pub text_bytes-ok : (start w n pos : ℕ) (l : List ℕ) → n ≤ 1048576 → n ≤ length l
    → text_bytes start w n pos l ≡ ok (take n l) (pos + 8 * n) (drop n l)
unfolding text_bytes
text_bytes-ok start w n pos l h k = rw (le-ltb 1048576 n h, le-ltb (length l) n k)

-- a text followed by one zero byte is read back
text8-decodes : (start w : ℕ) (t : List ℕ) → IsText t → Decodes (text8 start w (length t + 1)) (t ++ (0 ∷ [])) t
unfolding text8 as_utf8 checked
text8-decodes start w t v pos tail =
    let b : List ℕ = t ++ (0 ∷ []) in
    let n : length b ≡ length t + 1 = length-append t (0 ∷ []) in
    let k : length (b ++ tail) ≡ length b + length tail = length-append b tail in
    let few : length t + 1 ≤ 1048576 = omega (arith, v.short) in
    bind_ok (text_bytes start w (length t + 1)) (λ b. checked start (as_utf8 (drop_zero b))) pos (b ++ tail)
    (text_bytes-ok start w (length t + 1) pos (b ++ tail) few (omega arith))
    ∙ rw (take_at b tail (length t + 1) n, drop_at b tail (length t + 1) n, drop_zero-snoc t, v.valid, le-ltb 4096 (length t) v.short, n)

-- a length word that counts bytes
pub text_of-8 : (start w : ℕ) → 0 < w → w < 2 ^ 31 → text_of start w ≡ text8 start w w
unfolding text_of
text_of-8 start w h k = rw (ne_eqb w 0 (λ e. omega arith), lt-ltb w (2 ^ 31) k)

-- reading a text is reading its length word and then `text_of`
pub fstring-at : (pos : ℕ) (l : List ℕ) → fstring pos l ≡ (word32 >>= text_of pos) pos l
unfolding fstring position
fstring-at pos l = bind_ok position (λ start. word32 >>= text_of start) pos l refl

-- a text as the writer sends it is read back, whatever follows it
pub fstring-encode_text : (t : List ℕ) → IsText t → Decodes fstring (encode_text t) t
unfolding encode_text encode_word32 text_of return
fstring-encode_text [] v pos tail =
    fstring-at pos (encode_word32 0 ++ tail)
    ∙ bind_ok word32 (text_of pos) pos (encode_word32 0 ++ tail) (word32-decodes 0 (omega arith) pos tail)
fstring-encode_text (b ∷ t) v pos tail =
    let s : List ℕ = b ∷ t in
    let n : ℕ = length s + 1 in
    let few : n < 2 ^ 31 = omega (arith, v.short) in
    fstring-at pos _
    ∙ decodes-then word32 (text_of pos) (encode_word32 n) (s ++ (0 ∷ [])) (word32-decodes n (omega arith))
    (rw (text_of-8 pos n (omega arith) few) (text8-decodes pos n s v)) pos tail

-- ---- what is read or accepted is a text that may be held

-- the outcome is a refusal, or a text that may be held
abbrev Sound : Read (List ℕ) → Type 0
Sound (ok t p m) = IsText t
Sound (refused n a b) = Unit {0}

checked-sound : (start : ℕ) (o : Option (List ℕ)) (pos : ℕ) (l : List ℕ) → InvalidOrUtf8 o → Sound (checked start o pos l)
unfolding checked
checked-sound start none pos l v = tt
checked-sound start (some t) pos l v =
    by_cond Sound (ltb 4096 (length t)) (λ _. tt) (λ e. record { valid = v; short = ltb-false 4096 (length t) e })

bytes-sound : (f : List ℕ → Reader (List ℕ)) (start w n pos : ℕ) (l : List ℕ)
    → Sound (f (take n l) (pos + 8 * n) (drop n l)) → Sound ((text_bytes start w n >>= f) pos l)
unfolding ◌>>=◌ bind_read text_bytes
bytes-sound f start w n pos l k =
    by_cond (λ (r : Read (List ℕ)). Sound (bind_read f r)) (ltb 1048576 n || ltb (length l) n) (λ _. tt) (λ _. k)

as_utf8-valid : (t : List ℕ) → InvalidOrUtf8 (as_utf8 t)
unfolding as_utf8
as_utf8-valid t = by_cond InvalidOrUtf8 (utf8 t) (λ e. e) (λ _. tt)

-- the elements of `take n l` are no larger than those of l
take-le : (k n : ℕ) (l : List ℕ) → ((i : ℕ) → get_or l i 0 ≤ k) → (i : ℕ) → get_or (take n l) i 0 ≤ k
take-le k zero l h i = zero-le
take-le k (suc n) [] h i = zero-le
take-le k (suc n) (x ∷ l) h zero = h 0
take-le k (suc n) (x ∷ l) h (suc i) = take-le k n l (λ j. h (suc j)) i

drop_zero-le : (k : ℕ) (l : List ℕ) → ((i : ℕ) → get_or l i 0 ≤ k) → (i : ℕ) → get_or (drop_zero l) i 0 ≤ k
unfolding drop_zero
drop_zero-le k [] h i = zero-le
drop_zero-le k (x ∷ []) h i = by_cond (λ (m : List ℕ). get_or m i 0 ≤ k) (eqb x 0) (λ _. zero-le) (λ _. h i)
drop_zero-le k (x ∷ y ∷ l) h zero = h 0
drop_zero-le k (x ∷ y ∷ l) h (suc i) = drop_zero-le k (y ∷ l) (λ j. h (suc j)) i

text_of-sound : (start w pos : ℕ) (l : List ℕ) → ((i : ℕ) → get_or l i 0 < 256) → Sound (text_of start w pos l)
unfolding text_of text8 text16 return utf8 utf8_from
text_of-sound start w pos l h =
    let P : Reader (List ℕ) → Type 0 = λ r. Sound (r pos l) in
    let n : ℕ = 2 * (2 ^ 32 - w) in
    let b : (i : ℕ) → get_or (take n l) i 0 < 256 = λ i. omega (arith, take-le 255 n l (λ j. omega (arith, h j)) i) in
    by_cond P (eqb w 0) (λ _. record { valid = refl; short = zero-le }) λ _.
    by_cond P (ltb w (2 ^ 31))
    (λ _. bytes-sound (λ b. checked start (as_utf8 (drop_zero b))) start w w pos l (checked-sound start _ _ _ (as_utf8-valid _)))
    λ _. bytes-sound (λ b. checked start (units_to_utf8 (drop_zero (units b)))) start w n pos l
    (checked-sound start _ _ _ (units_to_utf8-valid _ (drop_zero-le 0xFFFF _ (units-16 _ b))))

fstring-sound : (pos : ℕ) (l : List ℕ) → ((i : ℕ) → get_or l i 0 < 256) → Sound (fstring pos l)
unfolding fstring position word32 ◌>>=◌ bind_read
fstring-sound pos [] h = tt
fstring-sound pos (a ∷ []) h = tt
fstring-sound pos (a ∷ b ∷ []) h = tt
fstring-sound pos (a ∷ b ∷ c ∷ []) h = tt
fstring-sound pos (a ∷ b ∷ c ∷ d ∷ l) h = text_of-sound pos _ (pos + 32) l (λ i. h (suc (suc (suc (suc i)))))

pub fstring-text : (pos : ℕ) (l : List ℕ) → ((i : ℕ) → get_or l i 0 < 256) → {t : List ℕ} {p : ℕ} {m : List ℕ}
    → fstring pos l ≡ ok t p m → IsText t
fstring-text pos l h e = subst Sound e (fstring-sound pos l h)

pub caller_text-text : (t : List ℕ) → caller_text t ≡ accepted → IsText t
unfolding caller_text
caller_text-text t e =
    let P : CallerText → Type 0 = elim [ accepted ↦ IsText t | refusal n a b ↦ Unit {0} ] in
    subst P e
    (by_cond P (utf8 t)
    (λ v. by_cond P (ltb 4096 (length t)) (λ _. tt) (λ s. record { valid = v; short = ltb-false 4096 (length t) s }))
    λ _. tt)
