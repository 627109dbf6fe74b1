-- Laws of bases: the base by the last byte of a text, as the code finds it, and the base of each leaf that a name or a stem is tried as.
use Rattle.std.specs.Prelude.{◌≡◌, true, false, ℕ, ◌-◌, get_or, take}
use Rattle.std.proofs.Math.Path.{refl, sym, ap}
use Rattle.std.proofs.Common.{◌∙◌, arith, take_at}
use mathlib.Core.List.{List, ◌++◌, append_assoc}
use Rattle.std.proofs.Math.ListN.{length, length-append}
use Rattle.vrf_bitio.proofs.Laws.Cases.{by_cond}
use Rattle.vrf_path.specs.Text.{ends_with}
use Rattle.vrf_path.specs.Toggle.{class_net_cache}
use Rattle.vrf_path.specs.Stems.{component, underscore_c}
use Rattle.vrf_path.specs.Base.{cut_at, class_base, leaf_base}
use Rattle.vrf_path.proofs.Laws.Text.{ends-other, ends-following, ends-not}

-- a text that ends with p, and one that does not
module _ (p t : List ℕ) where
  pub cut-there : ends_with p t ≡ true → take (length t - length p) t ≡ cut_at p t
  unfolding cut_at
  cut-there e = rw e

  pub cut-not : ends_with p t ≡ false → t ≡ cut_at p t
  unfolding cut_at
  cut-not e = rw e

-- the bases by the last byte: `t`, `C`, `e`, or any other
module _ (t : List ℕ) where
  abbrev last : ℕ
  last = get_or t (length t - 1) 0

  no-component : (last ≡ 116 → ⊥) → ends_with component t ≡ false
  unfolding component
  no-component ne = ends-other component t (omega arith) ne

  no-underscore : (last ≡ 67 → ⊥) → ends_with underscore_c t ≡ false
  unfolding underscore_c
  no-underscore ne = ends-other underscore_c t (omega arith) ne

  pub class-by-t : last ≡ 116 → cut_at component t ≡ class_base t
  unfolding class_base
  class-by-t e =
      by_cond (λ (u : List ℕ). cut_at component t ≡ u) (ends_with component t) (λ h. refl)
      (λ h. sym (cut-not component t h) ∙ cut-not underscore_c t (no-underscore (λ z. omega (arith, e, z))))

  pub class-by-C : last ≡ 67 → cut_at underscore_c t ≡ class_base t
  unfolding class_base
  class-by-C e = rw (no-component (λ z. omega (arith, e, z)))

  pub class-by-others : (last ≡ 116 → ⊥) → (last ≡ 67 → ⊥) → t ≡ class_base t
  unfolding class_base
  class-by-others a b = rw (no-component a) (cut-not underscore_c t (no-underscore b))

  pub leaf-by-e : class_base (cut_at class_net_cache t) ≡ leaf_base t
  unfolding leaf_base
  leaf-by-e = refl

  pub leaf-by-others : (last ≡ 101 → ⊥) → class_base t ≡ leaf_base t
  unfolding leaf_base class_net_cache
  leaf-by-others ne = ap class_base (cut-not class_net_cache t (ends-other class_net_cache t (omega arith) ne))

-- the bases of the leaves that a name is tried as
module _ (s : List ℕ) where
  cut-following : (p : List ℕ) → cut_at p (s ++ p) ≡ s
  unfolding cut_at
  cut-following p =
      let before : length (s ++ p) - length p ≡ length s = rw length-append (omega arith) in
      rw (ends-following s p, before) (take_at s p (length s) refl)

  cut-past : (p q : List ℕ) → ends_with p (s ++ q) ≡ false → cut_at p (s ++ q) ≡ s ++ q
  cut-past p q e = sym (cut-not p (s ++ q) e)

  class-component : class_base (s ++ component) ≡ s
  unfolding class_base
  class-component = rw (ends-following s component) (cut-following component)

  class-underscore : class_base (s ++ underscore_c) ≡ s
  unfolding class_base component underscore_c
  class-underscore = rw (ends-not s underscore_c component (omega arith) (omega arith) (λ e. omega (arith, e))) (cut-following underscore_c)

  pub base-component : leaf_base (s ++ component) ≡ s
  unfolding leaf_base component class_net_cache
  base-component = ap class_base (cut-past class_net_cache component (ends-not s component class_net_cache (omega arith) (omega arith) (λ e. omega (arith, e)))) ∙ class-component

  pub base-underscore : leaf_base (s ++ underscore_c) ≡ s
  unfolding leaf_base underscore_c class_net_cache
  base-underscore = ap class_base (cut-past class_net_cache underscore_c (ends-not s underscore_c class_net_cache (omega arith) (omega arith) (λ e. omega (arith, e)))) ∙ class-underscore

-- the base of s followed by `_ClassNetCache`, and so the bases of the leaves that a stem is tried as
pub base-cache : (s : List ℕ) → leaf_base (s ++ class_net_cache) ≡ class_base s
unfolding leaf_base
base-cache s = ap class_base (cut-following s class_net_cache)

pub base-component-cache : (s : List ℕ) → leaf_base (s ++ (component ++ class_net_cache)) ≡ s
base-component-cache s = ap leaf_base (sym (append_assoc s component class_net_cache)) ∙ base-cache (s ++ component) ∙ class-component s

pub base-underscore-cache : (s : List ℕ) → leaf_base (s ++ (underscore_c ++ class_net_cache)) ≡ s
base-underscore-cache s = ap leaf_base (sym (append_assoc s underscore_c class_net_cache)) ∙ base-cache (s ++ underscore_c) ∙ class-underscore s
