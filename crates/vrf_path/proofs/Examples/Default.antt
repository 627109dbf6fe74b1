-- Default aliases, computed.
use Rattle.std.specs.Prelude.{◌≡◌, refl}
use Rattle.std.proofs.Math.Option.{none, some}
use Rattle.vrf_bitio.specs.Ascii.{ascii}
use Rattle.vrf_path.specs.Text.{same, starts_with}
use Rattle.vrf_path.specs.Keys.{default_prefix, is_separator, has_separator, default_alias}

-- each of `/ . :` makes a name a path, which then has no default alias
pub qualified : (default_alias (ascii "q/b") ≡ none) × (default_alias (ascii "q.b") ≡ none) × (default_alias (ascii "q:b") ≡ none)
unfolding default_alias starts_with same has_separator is_separator default_prefix
qualified = (refl, refl, refl)

-- a leading `Default__` is dropped once
pub once : default_alias (ascii "Default__Default__A") ≡ some (ascii "Default__A")
unfolding default_alias starts_with same default_prefix
once = refl

-- the prefix is matched in its letter case, and with both underscores
pub not-prefixed : (default_alias (ascii "default__A") ≡ some (ascii "Default__default__A")) × (default_alias (ascii "Default_A") ≡ some (ascii "Default__Default_A"))
unfolding default_alias starts_with same has_separator is_separator default_prefix
not-prefixed = (refl, refl)
