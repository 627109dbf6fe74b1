-- What `claim_of` requires of its leaves.
use Rattle.std.specs.Prelude.{◌≡◌, ℕ, ◌^◌, ◌<◌, ◌≤◌, List, ◌++◌, length, take}
use Rattle.vrf_path.specs.Base.{leaf_base}
use Rattle.vrf_table.specs.Inner.Answers.{Suffixed}

-- what `claim_of` requires of a name and three suffixes: the name is the base of the second and third leaf, and its first n bytes are the
-- base of the first
pub record NameLeaves (name : List ℕ) (n : ℕ) (s t u : List ℕ) : Type 0 where
  pub first : Suffixed name s
  pub second : Suffixed name t
  pub third : Suffixed name u
  pub within : n ≤ length name
  pub short : length name < 2 ^ 31
  pub base_first : take n name ≡ leaf_base (name ++ s)
  pub base_second : name ≡ leaf_base (name ++ t)
  pub base_third : name ≡ leaf_base (name ++ u)
