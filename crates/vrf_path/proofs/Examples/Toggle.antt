-- The `_ClassNetCache` toggle, computed.
use Rattle.std.specs.Prelude.{◌≡◌, refl}
use mathlib.Core.List.{[], ◌∷◌, Option-to_list}
use Rattle.std.proofs.Math.Option.{none, some}
use Rattle.vrf_bitio.specs.Ascii.{ascii}
use Rattle.vrf_path.specs.Text.{same, starts_with, ends_with, first_from, non_empty}
use Rattle.vrf_path.specs.Keys.{default_prefix, core_segment, characters_root, is_separator, has_separator, default_alias, core_alias_at, core_alias, keys}
use Rattle.vrf_path.specs.Toggle.{class_net_cache, toggle, with_toggles, class_net_cache_keys}

-- the suffix alone has no toggle, and the toggle of the empty key is the suffix
pub toggles : (toggle (ascii "_ClassNetCache") ≡ none) × (toggle [] ≡ some (ascii "_ClassNetCache"))
unfolding toggle ends_with same non_empty class_net_cache
toggles = (refl, refl)

-- the suffix is removed once, from the end
pub once : toggle (ascii "a_ClassNetCache_ClassNetCache") ≡ some (ascii "a_ClassNetCache")
unfolding toggle ends_with same non_empty class_net_cache
once = refl

-- each key is tried before its toggle, and both before the next key
pub order : class_net_cache_keys (ascii "x") ≡ ascii "x" ∷ ascii "x_ClassNetCache" ∷ ascii "Default__x" ∷ ascii "Default__x_ClassNetCache" ∷ []
unfolding class_net_cache_keys with_toggles toggle ends_with class_net_cache keys Option-to_list default_alias core_alias core_alias_at starts_with same first_from has_separator is_separator default_prefix core_segment characters_root
order = refl
