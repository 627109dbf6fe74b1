-- Opening a book (document 01, The book and the table of refusals): refusal 1 for an allowance above its top, refusal 3 for memory that is
-- too short; and how many bytes to lend.
use Rattle.std.specs.Prelude.{ℕ, cond, nat_lt}
use Rattle.std.proofs.Math.Option.{Option, none, some}
use Rattle.vrf_model.specs.Book.{Allowances}
use Rattle.vrf_store.specs.Layout

-- the lowest allowance above its top
unfoldable pub above_top : Allowances → Option ℕ
above_top a =
    cond (nat_lt 1000000 a.guids) (some 1)
    (cond (nat_lt 100000 a.groups) (some 2)
    (cond (nat_lt 1000000 a.fields) (some 3)
    (cond (nat_lt 67108864 a.text) (some 4)
    (cond (nat_lt 1000000 a.literals) (some 5)
    none))))

pub data Opening : Type 0 where
  opened : Opening
  not_opened : ℕ → ℕ → ℕ → Opening

unfoldable pub unless_short : ℕ → ℕ → Opening
unless_short needed n = cond (nat_lt n needed) (not_opened 3 needed 0) opened

unfoldable pub unless_above : Option ℕ → Opening → Opening
unless_above none o = o
unless_above (some which) o = not_opened 1 which 0

-- opening a memory of n bytes
unfoldable pub opening : Allowances → ℕ → Opening
opening a n = unless_above (above_top a) (unless_short (Layout.need a) n)

-- how many bytes to lend for these allowances: 0 if one is above its top
unfoldable pub zero_above : Option ℕ → ℕ → ℕ
zero_above none needed = needed
zero_above (some which) needed = 0

unfoldable pub memory_needed : Allowances → ℕ
memory_needed a = zero_above (above_top a) (Layout.need a)
