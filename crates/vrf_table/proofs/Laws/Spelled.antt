-- Laws about texts written at the start of a scratch buffer, and about their lengths. The proofs of `src/spell.rt` and of its callers use
-- them.
use Rattle.std.specs.Prelude.{◌≡◌, ℕ, ◌+◌, ◌-◌, ◌≤◌, min, List, [], ◌∷◌, ◌++◌, length, take, drop, slice_set}
use Rattle.std.proofs.Common.{sym, ap, subst, ◌∙◌, append_assoc, arith, length-append, length-take, length-drop, drop_of_length-le, take_at, take_all, drop-drop}
use Rattle.vrf_bitio.specs.Pasted.{pasted}
use Rattle.vrf_bitio.proofs.Laws.Pasted.{pasted-nil, pasted-cons, pasted-append, pasted-front, pasted_length}
use Rattle.vrf_bitio.proofs.Laws.Cases.{by_order}
use Rattle.vrf_path.specs.Keys.{default_prefix, characters_core}
use Rattle.vrf_path.specs.Answers.{key_bytes}
use Rattle.vrf_path.specs.declared.Key.{Key}
use Rattle.vrf_path.specs.declared.Key.TheVariants.{Itself, Stripped, Prefixed, Cut, Inserted}
use Rattle.vrf_table.specs.Inner.Spelled.{SpelledInto}

pub fronted : {l y : List ℕ} {n : ℕ} (t : List ℕ) → y ≡ pasted l 0 t → n ≡ length t → length t ≤ length l → SpelledInto t l y n
fronted {l} {y} {n} t e en h = record {
  bytes = rw (e, pasted-front) (take_at t (drop (length t) l) n (sym en));
  count = en;
  long = rw e (pasted_length t l 0 (omega arith));
}

-- two texts, one after the other
pub joined : {l x y : List ℕ} {n : ℕ} (a b : List ℕ) → x ≡ pasted l 0 a → y ≡ pasted x (length a) b → n ≡ length a + length b → length a + length b ≤ length l → SpelledInto (a ++ b) l y n
joined {l} {x} {y} {n} a b ex ey en h =
    let whole : y ≡ pasted l 0 (a ++ b) = rw (ey, ex) (pasted-append a b l 0 (length a) (omega arith) (omega arith)) in
    fronted (a ++ b) whole (rw length-append en) (rw length-append h)

-- two texts with one byte between them
pub parted : {l x y z : List ℕ} {n : ℕ} (a b : List ℕ) (c : ℕ) → x ≡ pasted l 0 a → y ≡ slice_set x (length a) c → z ≡ pasted y (length a + 1) b → n ≡ length a + 1 + length b → length a + 1 + length b ≤ length l → SpelledInto (a ++ (c ∷ b)) l z n
parted {l} {x} {y} {z} {n} a b c ex ey ez en h =
    let long : length (pasted l 0 a) ≡ length l = pasted_length a l 0 (omega arith) in
    let one : y ≡ pasted (pasted l 0 a) (length a) (c ∷ []) = rw (ey, ex) (sym (pasted-cons (pasted l 0 a) (length a) c [] (omega arith) ∙ pasted-nil (slice_set (pasted l 0 a) (length a) c) (length a + 1))) in
    let two : y ≡ pasted l 0 (a ++ (c ∷ [])) = one ∙ pasted-append a (c ∷ []) l 0 (length a) (omega arith) (omega arith) in
    let size : length (a ++ (c ∷ [])) ≡ length a + 1 = length-append a (c ∷ []) in
    let three : z ≡ pasted l 0 ((a ++ (c ∷ [])) ++ b) = rw (ez, two) (pasted-append (a ++ (c ∷ [])) b l 0 (length a + 1) (omega arith) (omega arith)) in
    fronted (a ++ (c ∷ b)) (three ∙ ap (pasted l 0) (append_assoc a (c ∷ []) b)) (rw length-append (omega (arith, en))) (rw length-append (omega arith))

-- ---- parts of a text, where the place can be past its end

-- `&t[j..]` is the text without its first k bytes
pub part-following : (t : List ℕ) (k j : ℕ) → j ≡ min k (length t) → take (length t - j) (drop j t) ≡ drop k t
part-following t k j e =
    let all : take (length t - j) (drop j t) ≡ drop j t = take_all (length t - j) (drop j t) (rw length-drop (omega arith)) in
    by_order k (length t)
    (λ h. let z : j ≡ k = omega arith in all ∙ ap (λ (i : ℕ). drop i t) z)
    (λ h. let pj : length t ≤ j = omega arith in let pk : length t ≤ k = omega arith in all ∙ drop_of_length-le t pj ∙ sym (drop_of_length-le t pk))

pub cut-front : (t : List ℕ) (k j : ℕ) → j ≡ min k (length t) → take j t ≡ take k t
cut-front t k j e =
    by_order k (length t)
    (λ h. let z : j ≡ k = omega arith in ap (λ (i : ℕ). take i t) z)
    (λ h. take_all j t (omega arith) ∙ sym (take_all k t (omega arith)))

pub cut-following : (t : List ℕ) (k j : ℕ) → j ≡ min k (length t) → drop 7 (take (length t - j) (drop j t)) ≡ drop (k + 7) t
cut-following t k j e = ap (drop 7) (part-following t k j e) ∙ drop-drop 7 k t

-- a text with the seven bytes at place k replaced by `/` (47)
pub cut-written : {l x r z : List ℕ} (t : List ℕ) (k j : ℕ) → j ≡ min k (length t) → x ≡ pasted l 0 (take j t) → r ≡ drop 7 (take (length t - j) (drop j t)) → z ≡ pasted (slice_set x j 47) (j + 1) r
    → length (take k t ++ (47 ∷ drop (k + 7) t)) ≤ length l → SpelledInto (take k t ++ (47 ∷ drop (k + 7) t)) l z (j + 1 + length r)
cut-written {l} {x} {r} {z} t k j e ex er ez fits =
    let size : length (take j t) ≡ j = rw length-take (omega arith) in
    let front = cut-front t k j e in
    let rest : r ≡ drop (k + 7) t = er ∙ cut-following t k j e in
    let scratch = simp length-append at fits in
    let w = parted {l = l} {x = x} {y = slice_set x j 47} {z = z} {n = j + 1 + length r} (take j t) r 47 ex (rw size) (rw size ez) (rw size) (omega (arith, size, ap length front, ap length rest, scratch)) in
    let text : take j t ++ (47 ∷ r) ≡ take k t ++ (47 ∷ drop (k + 7) t) = rw (front, rest) in
    subst (λ (u : List ℕ). SpelledInto u l z (j + 1 + length r)) text w

module _ {text before after : List ℕ} {n : ℕ} (w : SpelledInto text before after n) where
  pub written-part : n ≡ length (take n after)
  written-part = cc

  pub written-within : n ≤ length after
  written-within = omega (arith, simp length-take at written-part)

-- a key of a path is at most 23 bytes longer than the path
pub key-short : (t : List ℕ) (k : Key) → length (key_bytes t k) ≤ length t + 23
unfolding default_prefix characters_core
key-short t Itself = omega arith
key-short t Stripped = simp length-drop (omega arith)
key-short t Prefixed = simp length-append (omega arith)
key-short t (Cut i) = simp (length-append, length-take, length-drop) (omega arith)
key-short t Inserted = simp (length-append, length-drop) (omega arith)
