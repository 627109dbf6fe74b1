-- What `Suffix` means. The contracts of `suffix_of`, `suffix_len` and `put_suffix` use it.
use Rattle.std.specs.Prelude.{List, [], ◌∷◌, ℕ}
use Prim.Native.Char.{code}
use Rattle.vrf_names.specs.Names.{decimal}
use Rattle.vrf_names.specs.declared.Suffix.{Suffix}
use Rattle.vrf_names.specs.declared.Suffix.TheVariants.{Empty, Plain, Minus}

-- the text that a suffix adds to a name
abbrev pub suffix_text : Suffix → List ℕ
suffix_text Empty = []
suffix_text (Plain n) = code "_" ∷ decimal n
suffix_text (Minus n) = code "_" ∷ code "-" ∷ decimal n
