-- Contracts of `full::passed` and `full::fits`: which allowance some counts pass.
use Rattle.std.specs.Prelude.{◌≡◌, cond, List, ℕ, ◌+◌, ◌-◌, ltb, Result, Ok, Err}
use Rattle.std.proofs.Math.Option.{Option, none, some}
use Rattle.vrf_bitio.specs.declared.Reason.TheVariants.{AllowancePassed}
use Rattle.vrf_bitio.specs.declared.Refusal.{Refusal}
use Rattle.vrf_model.specs.Book.{Allowances}
use Rattle.vrf_store.specs.Store.{allowances_of, header_of}

-- the lowest allowance that one of these counts passes
unfoldable pub passed_by : Allowances → ℕ → ℕ → ℕ → ℕ → Option ℕ
passed_by a guids groups fields text =
    cond (ltb a.guids guids) (some 1)
    (cond (ltb a.groups groups) (some 2)
    (cond (ltb a.fields fields) (some 3)
    (cond (ltb a.text text) (some 4)
    none)))

-- the lowest allowance that a step would pass. The step adds g GUID records, r groups and f fields, and holds n text bytes in
-- place of `gone` bytes
abbrev pub passes_by : List ℕ → (g r f gone n : ℕ) → Option ℕ
passes_by m g r f gone n = passed_by (allowances_of m) ((header_of m).guids + g) ((header_of m).groups + r) ((header_of m).fields + f) ((header_of m).held - gone + n)

-- the answer of `fits`: no allowance is passed, or refusal 42 names the one that is
abbrev pub FitsBy : Option ℕ → Result (Unit {0}) Refusal → Type 0
FitsBy w (Ok u) = w ≡ none
FitsBy w (Err r) = (w ≡ some r.a) × ((r.reason ≡ AllowancePassed) × (r.b ≡ 0))
