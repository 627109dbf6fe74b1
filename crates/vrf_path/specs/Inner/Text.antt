-- Relations for the contracts of the searches (`find`, `rfind`) and of the comparisons of parts (`eight_differ`, `four_differ`,
-- `last_differ`).
use Rattle.std.specs.Prelude.{◌≡◌, Bool, true, false, List, ℕ, Some, None}
use Rattle.std.specs.Prelude.{Option as Maybe}
use Rattle.std.proofs.Math.Option.{Option, none, some}
use Rattle.vrf_path.specs.Text.{same}

-- the place that a search gave, in the definitions' `Option`
abbrev pub place : Maybe ℕ → Option ℕ
place (Some i) = some i
place None = none

-- a comparison of parts of two texts: true means that the texts differ, false means P, which states that these parts agree
abbrev pub Differ : List ℕ → List ℕ → Type 0 → Bool → Type 0
Differ s t P true = same s t ≡ false
Differ s t P false = P
