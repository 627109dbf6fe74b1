-- K1 and K2 of document 01's examples table, and the order of a path's keys, computed.
use Rattle.std.specs.Prelude.{◌≡◌, refl}
use mathlib.Core.List.{[], ◌∷◌, Option-to_list}
use Rattle.vrf_bitio.specs.Ascii.{ascii}
use Rattle.vrf_path.specs.Text.{same, starts_with, first_from}
use Rattle.vrf_path.specs.Keys.{default_prefix, core_segment, characters_root, is_separator, has_separator, default_alias, core_alias_at, core_alias, keys}

-- K1 empty path: keys empty, `Default__`
pub K1 : keys [] ≡ [] ∷ ascii "Default__" ∷ []
unfolding keys Option-to_list default_alias core_alias core_alias_at starts_with same first_from has_separator default_prefix characters_root
K1 = refl

-- K2 `/x/_Core/y`: itself, `/x/y`
pub K2 : keys (ascii "/x/_Core/y") ≡ ascii "/x/_Core/y" ∷ ascii "/x/y" ∷ []
unfolding keys Option-to_list default_alias core_alias core_alias_at starts_with same first_from has_separator is_separator default_prefix core_segment
K2 = refl

-- the path itself, its default alias, its core alias
pub order : keys (ascii "Default__/x/_Core/y") ≡ ascii "Default__/x/_Core/y" ∷ ascii "/x/_Core/y" ∷ ascii "Default__/x/y" ∷ []
unfolding keys Option-to_list default_alias core_alias core_alias_at starts_with same first_from default_prefix core_segment
order = refl
