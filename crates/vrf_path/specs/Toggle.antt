-- The `_ClassNetCache` toggle of a key, and the keys that `find_class_net_cache_key` tries (path.rs).
use Rattle.std.specs.Prelude.{cond, ℕ, ◌-◌, length, take}
use mathlib.Core.List.{List, [], ◌∷◌, ◌++◌, Option-to_list}
use Rattle.std.proofs.Math.Option.{Option, some}
use Rattle.vrf_bitio.specs.Ascii.{ascii}
use Rattle.vrf_path.specs.Text.{ends_with, non_empty}
use Rattle.vrf_path.specs.Keys.{keys}

unfoldable pub class_net_cache : List ℕ
unfolding ascii
class_net_cache = ascii "_ClassNetCache"

-- the suffix removed if the key ends with it, otherwise appended; a key that is only the suffix has no toggle
unfoldable pub toggle : List ℕ → Option (List ℕ)
toggle k = cond (ends_with class_net_cache k) (non_empty (take (length k - length class_net_cache) k)) (some (k ++ class_net_cache))

-- each key, followed by its toggle
unfoldable pub with_toggles : List (List ℕ) → List (List ℕ)
with_toggles [] = []
with_toggles (k ∷ ks) = k ∷ (Option-to_list (toggle k) ++ with_toggles ks)

unfoldable pub class_net_cache_keys : List ℕ → List (List ℕ)
class_net_cache_keys path = with_toggles (keys path)
