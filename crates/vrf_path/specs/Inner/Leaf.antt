-- Texts without a dot. Functions of vrf_table and vrf_store require this of the leaf that they search.
use Rattle.std.specs.Prelude.{◌≡◌, List, ℕ, get_or}
use Prim.Native.Char.{code}

-- no byte is a dot
abbrev pub Dotless : List ℕ → Type 0
Dotless t = (i : ℕ) → get_or t i 0 ≡ code "." → ⊥
