-- Document 01, section The book: a leaf is the non-empty text after a path's last dot.
use Rattle.std.specs.Prelude.{List, ℕ, ◌+◌, length, drop}
use Rattle.std.proofs.Math.Option.{Option, none, some}
use Prim.Native.Char.{code}
use Rattle.vrf_path.specs.Text.{last_below, non_empty}

-- the text after the dot at place i, unless it is empty
unfoldable pub leaf_after : List ℕ → Option ℕ → Option (List ℕ)
leaf_after t none = none
leaf_after t (some i) = non_empty (drop (i + 1) t)

unfoldable pub leaf : List ℕ → Option (List ℕ)
leaf t = leaf_after t (last_below (code ".") t (length t))
