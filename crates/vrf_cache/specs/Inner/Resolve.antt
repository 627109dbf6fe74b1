-- Contracts of the functions of `resolve`. The code tries claims and keys one at a time; the model searches lists of them.
use Rattle.std.specs.Prelude.{◌≡◌, Bool, true, false, ℕ, ◌≤◌, length}
use mathlib.Core.List.{List, [], ◌∷◌, Option-to_list}
use Rattle.std.proofs.Math.Option.{Option, none, some}
use Rattle.vrf_path.specs.Keys.{has_separator, default_alias, core_alias}
use Rattle.vrf_path.specs.Toggle.{with_toggles}
use Rattle.vrf_model.specs.Book.{Group}
use Rattle.vrf_model.specs.Lookup.{Claim, absent, ambiguous, claimed, leaf_claim, found_or_next, first_path}
use Rattle.vrf_table.specs.Inner.Index.{claim_or_later}

-- a name with none of `/ . :`, so it is no path
abbrev pub Bare : List ℕ → Type 0
Bare t = has_separator t ≡ false

-- the key, if it is some, has at most n bytes
abbrev pub AtMost : ℕ → Option (List ℕ) → Type 0
AtMost n none = Unit {0}
AtMost n (some k) = length k ≤ n

-- whether a claim ends the search
unfoldable pub decides : Claim → Bool
decides absent = false
decides ambiguous = true
decides (claimed i) = true

-- the first claim among some leaves that is not absent
unfoldable pub first_of : List Group → List (List ℕ) → Claim
first_of groups [] = absent
first_of groups (l ∷ ls) = claim_or_later (leaf_claim l groups) (first_of groups ls)

-- the group of a key, if it is some, or of its toggle
unfoldable pub with_toggle : List Group → Option (List ℕ) → Option ℕ
with_toggle groups k = first_path groups (with_toggles (Option-to_list k))

-- the group of a path's default alias or its toggle; if there is none, of its core alias or its toggle
unfoldable pub by_alias : List Group → List ℕ → Option ℕ
by_alias groups path = found_or_next (with_toggle groups (default_alias path)) (with_toggle groups (core_alias path))
