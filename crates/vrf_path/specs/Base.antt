-- The base of a leaf. Document 01 does not have this term. The book looks groups up by the base of their leaf, because the leaves that a
-- name or a stem is tried as have one base, except the first leaf of a name that itself ends with such a suffix.
use Rattle.std.specs.Prelude.{cond, List, ℕ, ◌-◌, length, take}
use Rattle.vrf_path.specs.Text.{ends_with}
use Rattle.vrf_path.specs.Toggle.{class_net_cache}
use Rattle.vrf_path.specs.Stems.{component, underscore_c}

-- t without its ending p; all of t if it does not end with p
unfoldable pub cut_at : List ℕ → List ℕ → List ℕ
cut_at p t = cond (ends_with p t) (take (length t - length p) t) t

-- the name of a class without a final `Component` or `_C`
unfoldable pub class_base : List ℕ → List ℕ
class_base t = cond (ends_with component t) (cut_at component t) (cut_at underscore_c t)

-- a leaf without a final `_ClassNetCache`, and then without a final `Component` or `_C`
unfoldable pub leaf_base : List ℕ → List ℕ
leaf_base l = class_base (cut_at class_net_cache l)
