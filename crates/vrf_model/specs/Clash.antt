-- Refusal 44 (document 01, Where each check stands), stated without the writer's search: a path that is a key of an earlier group.
use Rattle.std.specs.Prelude.{◌≡◌, true, List, ℕ, ◌<◌, ◌≤◌, length}
use Rattle.vrf_path.specs.Keys.{has_key}
use Rattle.vrf_model.specs.Book.{Group}
use Rattle.vrf_model.specs.Lookup.{path_at}

-- the group at i is earlier than the group at j, and the path of the group at j is a key of the group at i
pub record Clash (groups : List Group) (i j : ℕ) : Type 0 where
  pub before : i < j
  pub below : j < length groups
  pub key : has_key (path_at groups i) (path_at groups j) ≡ true

-- the first such later group is at place j
pub record FirstClash (groups : List Group) (j : ℕ) : Type 0 where
  pub earlier : ℕ
  pub clash : Clash groups earlier j
  pub least : (i k : ℕ) → Clash groups i k → j ≤ k

-- no group's path is a key of an earlier group
abbrev pub NoClash : List Group → Type 0
NoClash groups = (i j : ℕ) → Clash groups i j → ⊥

-- some group's path is a key of an earlier group
pub record SomeClash (groups : List Group) : Type 0 where
  pub earlier : ℕ
  pub later : ℕ
  pub clash : Clash groups earlier later
