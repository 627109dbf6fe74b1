-- The slot count at a place, used in the contracts of `fields`.
use Rattle.std.specs.Prelude.{List, ℕ, length}
use Rattle.vrf_model.specs.Book.{Group}
use Rattle.vrf_model.specs.Lookup.{place_or}

-- the slot count of the group at a place; 0 if there is no such group
abbrev pub slots_at : List Group → ℕ → ℕ
slots_at groups place = place_or (λ (g : Group). length g.slots) 0 groups place
