-- Leaves of paths, and the leaves that a name and a stem are tried as, computed.
use Rattle.std.specs.Prelude.{◌≡◌, refl, [], ◌∷◌, replicate}
use Rattle.std.proofs.Math.Option.{none, some}
use Prim.Native.Char.{code}
use Rattle.vrf_bitio.specs.Ascii.{ascii}
use Rattle.vrf_path.specs.Text.{last_below, non_empty}
use Rattle.vrf_path.specs.Leaf.{leaf_after, leaf}
use Rattle.vrf_path.specs.Toggle.{class_net_cache}
use Rattle.vrf_path.specs.Stems.{component, underscore_c, stem_leaves, name_leaves}

-- there is no leaf if nothing follows the dot, or if there is no dot
pub no-leaf : (leaf (ascii ".") ≡ none) × (leaf (ascii "/a:b") ≡ none)
unfolding leaf leaf_after last_below non_empty ascii
no-leaf = (refl, refl)

-- the leaf is all of the text after the last dot
pub leaves : (leaf (ascii "/a.b") ≡ some (ascii "b")) × (leaf (ascii "/a.b.c") ≡ some (ascii "c")) × (leaf (ascii "/a.b:c") ≡ some (ascii "b:c"))
unfolding leaf leaf_after last_below non_empty ascii
leaves = (refl, refl, refl)

-- a leaf may have more than 255 bytes
pub long : leaf (code "." ∷ replicate 256 (code "x")) ≡ some (replicate 256 (code "x"))
unfolding leaf leaf_after last_below non_empty
long = refl

-- a name is tried as it is, then as a component, then as a class
pub name-leaves : name_leaves (ascii "A") ≡ ascii "A" ∷ ascii "AComponent" ∷ ascii "A_C" ∷ []
unfolding name_leaves component underscore_c
name-leaves = refl

-- a stem is tried in the same three forms, each with `_ClassNetCache`
pub stem-leaves : stem_leaves (ascii "A") ≡ ascii "A_ClassNetCache" ∷ ascii "AComponent_ClassNetCache" ∷ ascii "A_C_ClassNetCache" ∷ []
unfolding stem_leaves component underscore_c class_net_cache
stem-leaves = refl
