-- Core aliases, computed.
use Rattle.std.specs.Prelude.{◌≡◌, refl}
use Rattle.std.proofs.Math.Option.{none, some}
use Rattle.vrf_bitio.specs.Ascii.{ascii}
use Rattle.vrf_path.specs.Text.{same, starts_with, first_from}
use Rattle.vrf_path.specs.Keys.{core_segment, characters_root, characters_core, core_alias_at, core_alias}

-- only the first `/_Core/` is replaced
pub first : core_alias (ascii "/_Core/a/_Core/b") ≡ some (ascii "/a/_Core/b")
unfolding core_alias core_alias_at starts_with same first_from core_segment
first = refl

-- a path under `/Game/Characters/` loses its `/_Core/`, or gets one if it has none
pub characters : (core_alias (ascii "/Game/Characters/_Core/x") ≡ some (ascii "/Game/Characters/x"))
    × (core_alias (ascii "/Game/Characters/x") ≡ some (ascii "/Game/Characters/_Core/x"))
    × (core_alias (ascii "/Game/Characters/") ≡ some (ascii "/Game/Characters/_Core/"))
unfolding core_alias core_alias_at starts_with same first_from core_segment characters_root characters_core
characters = (refl, refl, refl)

-- both slashes of `/_Core/` are needed
pub slashes : core_alias (ascii "/Game/Characters/a/_CoreB") ≡ some (ascii "/Game/Characters/_Core/a/_CoreB")
unfolding core_alias core_alias_at starts_with same first_from core_segment characters_root characters_core
slashes = refl

-- `/Game/Characters/` counts at the start only
pub leading : core_alias (ascii "x/Game/Characters/y") ≡ none
unfolding core_alias core_alias_at starts_with same first_from core_segment characters_root
leading = refl
