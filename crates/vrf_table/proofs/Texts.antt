-- Laws for the functions that compare texts: the part of the memory that holds a row's text, keys by number, and leaves.
use Rattle.std.proofs.Common.{◌≡◌, ℕ, zero, suc, ◌+◌, ◌-◌, ◌<◌, ◌≤◌, Bool, true, false, ◌&&◌, eqb, List, [], ◌∷◌, ◌++◌, length, get_or, take, drop, sym, refl, ap, ◌∙◌, arith, length-drop, take-append-drop, length-take, take_all, drop-drop}
use mathlib.Core.Bool.{and-true, and-false}
use Rattle.vrf_bitio.proofs.Laws.Cases.{clash}
use Rattle.vrf_path.specs.Text.{same}
use Rattle.vrf_path.specs.Keys.{core_alias, key_is}
use Rattle.vrf_path.specs.Leaf.{leaf}
use Rattle.vrf_path.specs.Inner.Leaf.{Dotless}
use Rattle.vrf_path.proofs.Laws.Text.{same_refl, same_true}
use Rattle.vrf_path.proofs.Laws.Keys.{the-true}
use Rattle.vrf_path.proofs.Laws.Leaf.{LeafIs, leaf-is, is_leaf}
use Rattle.vrf_words.specs.Words.{part}
use Rattle.vrf_table.specs.Table.{at, len, text}
use Rattle.vrf_table.specs.TextIndex.{key_numbered}

-- `&x[from..from + n]` in the form of the slice rule
pub text-part : (r x : List ℕ) (e from n : ℕ) → from ≡ at r e → n ≡ len r e → take (from + n - from) (drop from x) ≡ text r x e
unfolding text part
text-part r x e from n ef en = let size : from + n - from ≡ n = omega arith in rw (size, ef, en)

pub numbered-core : (t : List ℕ) (n : ℕ) → 2 ≤ n → key_numbered t n ≡ core_alias t
unfolding key_numbered
numbered-core t zero h = absurd (omega arith)
numbered-core t (suc zero) h = absurd (omega arith)
numbered-core t (suc (suc n)) h = refl

-- ---- leaves

-- a text that is not the path's leaf
pub leaf-not : (t l : List ℕ) → (LeafIs t l → ⊥) → key_is (leaf t) l ≡ false
leaf-not t l other = by (key_is (leaf t) l) refl
  where
    by : (b : Bool) → key_is (leaf t) l ≡ b → b ≡ false
    by true e = absurd (other (leaf-is t l (the-true (leaf t) l e)))
    by false e = refl

-- if the byte before them is a dot, the last bytes of the path decide
module _ (t l : List ℕ) (dotless : Dotless l) (some_bytes : 0 < length l) (shorter : length l < length t) (dot : get_or t (length t - length l - 1) 0 ≡ 46) where
  decides : (b : Bool) → same (drop (length t - length l) t) l ≡ b → b ≡ key_is (leaf t) l
  unfolding key_is
  decides true e =
      let is : LeafIs t l = record { shorter = shorter; tail = same_true (drop (length t - length l) t) l e; dot = dot; some_bytes = some_bytes; dotless = dotless } in
      rw (is_leaf t l is, same_refl l)
  decides false e = sym (leaf-not t l (λ is. clash (let z : true ≡ false = sym (same_refl l) ∙ rw is.tail at e in cc)))

  pub leaf-end : {r : Bool} → r ≡ same (drop (length t - length l) t) l → r ≡ key_is (leaf t) l
  leaf-end er = er ∙ decides (same (drop (length t - length l) t) l) refl

-- two texts are equal if their parts are
same_parts : (a b c d : List ℕ) → length a ≡ length c → same (a ++ b) (c ++ d) ≡ (same a c && same b d)
unfolding same
same_parts [] b [] d h = refl
same_parts [] b (y ∷ c) d h = absurd (omega arith)
same_parts (x ∷ a) b [] d h = absurd (omega arith)
same_parts (x ∷ a) b (y ∷ c) d h = rw (same_parts a b c d (omega arith)) (go (eqb x y) (same a c) (same b d))
  where
    go : (p q r : Bool) → (p && (q && r)) ≡ ((p && q) && r)
    go true q r = refl
    go false q r = refl

-- the end of a text is a name and a suffix, compared as `&t[from..following]` and `&t[following..]` in the form of the slice rule
module _ (t name suffix : List ℕ) (from : ℕ) (whole : from + length name + length suffix ≡ length t) where
  end-parts : same (drop from t) (name ++ suffix)
      ≡ (same (take (from + length name - from) (drop from t)) name && same (take (length t - (from + length name)) (drop (from + length name) t)) suffix)
  end-parts =
      let k : from + length name - from ≡ length name = omega arith in
      let front : length (take (length name) (drop from t)) ≡ length name = rw (length-take, length-drop) (omega arith) in
      let back : take (length t - (from + length name)) (drop (from + length name) t) ≡ drop (from + length name) t = take_all (length t - (from + length name)) (drop (from + length name) t) (rw length-drop (omega arith)) in
      ap (λ (s : List ℕ). same s (name ++ suffix)) (sym (take-append-drop (length name) (drop from t)))
      ∙ same_parts (take (length name) (drop from t)) (drop (length name) (drop from t)) name suffix front
      ∙ rw (k, back, drop-drop (length name) from t)

  module _ {x : Bool} (ex : x ≡ same (take (length t - (from + length name)) (drop (from + length name) t)) suffix) where
    pub end-by-name : x ≡ true → {r : Bool} → r ≡ same (take (from + length name - from) (drop from t)) name → r ≡ same (drop from t) (name ++ suffix)
    end-by-name h {r} er = sym (end-parts ∙ rw (← ex, h, ← er) (and-true r))

    pub end-not : x ≡ false → false ≡ same (drop from t) (name ++ suffix)
    end-not h = sym (end-parts ∙ rw (← ex, h) (and-false (same (take (from + length name - from) (drop from t)) name)))
