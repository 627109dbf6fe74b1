-- What the iterator `Stems` has left, for its callers. The contracts of `Stems` write it out, since a struct with a ghost field may not
-- name a file that names the struct.
use Rattle.std.specs.Prelude.{List, ℕ}
use Rattle.vrf_path.specs.Answers.{stems_since}
use Rattle.vrf_path.specs.declared.Stems.{Stems}

-- the stems that the iterator has left
abbrev pub stems_left : Stems → List (List ℕ)
stems_left s = stems_since s.name.now s.last
