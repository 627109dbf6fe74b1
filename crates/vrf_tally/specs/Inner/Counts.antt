-- The seven counts in two parts: the lines that `put_held` prints, and the lines that `put_paths` prints.
use Rattle.std.specs.Prelude.{List, [], ◌∷◌, ℕ}
use Prim.Native.String.{String}
use Rattle.vrf_model.specs.Block.{BlockCounts}

-- the first four counts and the last three
abbrev pub held_counts : BlockCounts → List (String × ℕ)
held_counts c = ("guids", c.guids) ∷ ("groups", c.groups) ∷ ("fields", c.fields) ∷ ("frame", c.frame) ∷ []

abbrev pub path_counts : BlockCounts → List (String × ℕ)
path_counts c = ("indexed", c.indexed) ∷ ("literals", c.literals) ∷ ("resolved", c.resolved) ∷ []
