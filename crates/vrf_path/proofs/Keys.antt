-- Lemmas for `key_len`, `key_byte` and `has_key`: a key's length and bytes, by the recipe that makes it.
use mathlib.Core.Path.{◌≡◌, sym, ap, ◌∙◌}
use mathlib.Core.Bool.{Bool, true, false}
use mathlib.Core.List.{List, ◌++◌}
use mathlib.Core.Option.{Option}
use Prim.Native.Nat.{ℕ, ◌+◌, ◌-◌, ◌<◌, ◌≤◌}
use native.Mathlib.Omega.{arith}
use lib.ListN.{length, get_or, drop, length-drop, get_or-append}
use lib.Seq.{get_or-drop, get_or-append-add}
use Rattle.vrf_path.specs.Text.{same}
use Rattle.vrf_path.specs.Keys.{default_prefix, characters_core, has_key, default_alias, core_alias, key_is}
use Rattle.vrf_path.specs.Answers.{key_bytes}
use Rattle.vrf_path.proofs.Laws.Keys.{has-by-parts}
use Rattle.vrf_path.specs.declared.Key.{Key}
use Rattle.vrf_path.specs.declared.Key.TheVariants.{Prefixed, Inserted}

-- the length of a key
module _ (t : List ℕ) {k : Key} where
  pub len-prefixed : k ≡ Prefixed → 9 + length t ≡ length (key_bytes t k)
  unfolding default_prefix
  len-prefixed e = rw e (omega arith)

  pub len-inserted : k ≡ Inserted → {r : ℕ} → r ≡ length t - 17 → 23 + r ≡ length (key_bytes t k)
  unfolding characters_core
  len-inserted e er = rw e (simp length-drop (omega arith))

-- the bytes after a first part p
past : (p t : List ℕ) (i : ℕ) → length p ≤ i → get_or (p ++ t) i 0 ≡ get_or t (i - length p) 0
past p t i h =
    let e : i ≡ length p + (i - length p) = omega arith in
    ap (λ (n : ℕ). get_or (p ++ t) n 0) e ∙ get_or-append-add p t (i - length p) 0

-- the bytes of a key
module _ (t : List ℕ) {k : Key} (i : ℕ) {r : ℕ} where
  pub byte-prefix : k ≡ Prefixed → i < 9 → r ≡ get_or default_prefix i 0 → r ≡ get_or (key_bytes t k) i 0
  unfolding default_prefix
  byte-prefix e h er = rw e (er ∙ sym (get_or-append default_prefix t 0 i h))

  pub byte-prefixed : k ≡ Prefixed → 9 ≤ i → r ≡ get_or t (i - 9) 0 → r ≡ get_or (key_bytes t k) i 0
  unfolding default_prefix
  byte-prefixed e h er = rw e (er ∙ sym (past default_prefix t i h))

  pub byte-root : k ≡ Inserted → i < 23 → r ≡ get_or characters_core i 0 → r ≡ get_or (key_bytes t k) i 0
  unfolding characters_core
  byte-root e h er = rw e (er ∙ sym (get_or-append characters_core (drop 17 t) 0 i h))

  pub byte-inserted : k ≡ Inserted → 23 ≤ i → r ≡ get_or t (i - 23 + 17) 0 → r ≡ get_or (key_bytes t k) i 0
  unfolding characters_core
  byte-inserted e h er =
      let c : i - 23 + 17 ≡ 17 + (i - 23) = omega arith in
      rw e (er ∙ rw c (sym (past characters_core (drop 17 t) i h ∙ get_or-drop 17 t (i - 23) 0)))

-- the answer of `has_key`, from its comparisons
module _ (t k : List ℕ) {r : Bool} where
  pub is-path : r ≡ same t k → r ≡ true → true ≡ has_key t k
  is-path e h = sym (has-by-parts t k ∙ rw (sym e ∙ h))

  module _ {s : Bool} (es : s ≡ same t k) (hs : s ≡ false) {d : Option (List ℕ)} (ed : d ≡ default_alias t) (er : r ≡ key_is d k) where
    pub is-default : r ≡ true → true ≡ has_key t k
    is-default h = sym (has-by-parts t k ∙ rw (sym es ∙ hs, ← ed, sym er ∙ h))

    pub is-core : r ≡ false → {c : Option (List ℕ)} → c ≡ core_alias t → {q : Bool} → q ≡ key_is c k → q ≡ has_key t k
    is-core h ec eq = sym (has-by-parts t k ∙ rw (sym es ∙ hs, ← ed, sym er ∙ h, ← ec, ← eq))
