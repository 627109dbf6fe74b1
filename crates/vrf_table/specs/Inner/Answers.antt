-- What the answers of the searches mean, and what they require of their texts.
use Rattle.std.specs.Prelude.{◌≡◌, ℕ, ◌+◌, ◌^◌, ◌<◌, ◌≤◌, List, ◌++◌, length, Option as Answer, Some, None}
use Rattle.std.proofs.Math.Option.{Option, none, some}
use Rattle.vrf_path.specs.Inner.Leaf.{Dotless}
use Rattle.vrf_model.specs.Lookup.{absent, ambiguous, claimed, Claim as Claims}
use Rattle.vrf_table.specs.Table.{at, len}
use Rattle.vrf_table.specs.declared.Claim.{Claim}
use Rattle.vrf_table.specs.declared.Claim.TheVariants.{Absent, Ambiguous, Only}

-- the number in an answer of the code
abbrev pub entry : Answer ℕ → Option ℕ
entry (Some e) = some e
entry None = none

-- what a claim of the code means
abbrev pub claim : Claim → Claims
claim Absent = absent
claim Ambiguous = ambiguous
claim (Only e) = claimed e

-- at each entry below n, every result of the code is the one that f says
abbrev pub Gives : {A : Type 0} → (ℕ → A → Type 0) → (ℕ → A) → ℕ → Type 0
Gives {A} post f n = (e : ℕ) (r : A) → e < n → post e r → r ≡ f e

-- the name and the suffix have no dot, and their length fits 32 bits
abbrev pub Suffixed : List ℕ → List ℕ → Type 0
Suffixed name suffix = Dotless (name ++ suffix) × (length name + length suffix < 2 ^ 32)

-- the texts of the rows below n are inside the memory x
abbrev pub RowTexts : List ℕ → List ℕ → ℕ → Type 0
RowTexts r x n = (e : ℕ) → e < n → at r e + len r e ≤ length x
