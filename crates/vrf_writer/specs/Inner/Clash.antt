-- Contracts of the search for the first clash: the first group whose path is a key of an earlier group (refusal 44). The search takes one
-- group after another. The keys of each group narrow down where the first clash can be.
use Rattle.std.specs.Prelude.{◌≡◌, ℕ, ◌<◌, ◌≤◌, Bool, true, false, List, MatchOption}
use Rattle.std.specs.Prelude.{Option as Found}
use Rattle.std.proofs.Math.Option.{Option, some}
use Rattle.vrf_path.specs.Keys.{has_key, key_is}
use Rattle.vrf_store.specs.Store.{Store}
use Rattle.vrf_writer.specs.Inner.Groups.{group_at}

abbrev pub path_at : Store → ℕ → List ℕ
path_at s g = (group_at s g).path

-- whether the key k is there and is the path of group j
abbrev pub is_at : Store → Option (List ℕ) → ℕ → Bool
is_at s k j = key_is k (path_at s j)

-- whether the path of group j is a key of group h
abbrev pub is_key_at : Store → ℕ → ℕ → Bool
is_key_at s h j = has_key (path_at s h) (path_at s j)

-- no group from place r on has the path k
pub record Keyed (s : Store) (k : List ℕ) (r : ℕ) : Type 0 where
  pub few : r ≤ s.header.groups
  pub past : (j : ℕ) → r ≤ j → j < s.header.groups → is_at s (some k) j ≡ false

-- no number after h and below j passes the test
abbrev pub NoneAfter : (ℕ → Bool) → ℕ → ℕ → Type 0
NoneAfter test h j = (i : ℕ) → h < i → i < j → test i ≡ false

-- r is the first number after h and below `least` that passes the test, or `least` if none does
pub record Narrowed (test : ℕ → Bool) (h least r : ℕ) : Type 0 where
  pub within : r ≤ least
  pub clear : NoneAfter test h r
  pub hit : r < least → (h < r) × (test r ≡ true)

-- the first number after h and below `to` that passes the test, if one does
abbrev pub FirstAfter : (ℕ → Bool) → ℕ → ℕ → Found ℕ → Type 0
FirstAfter test h to r = MatchOption r (NoneAfter test h to) (λ j. (h < j) × (j < to) × (test j ≡ true) × NoneAfter test h j)
