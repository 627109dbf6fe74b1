-- Demand 3 begins with a memory that was opened. This file proves that there is one: for all allowances within their maximum, every memory
-- that is long enough can be opened. So demand 3 is not an empty claim.
use Rattle.std.specs.Prelude.{◌≡◌, refl, List, ℕ, ◌≤◌, length, replicate, Ok}
use Rattle.std.proofs.Math.Option.{none}
use Rattle.std.proofs.Common.{arith, le-ltb}
use Rattle.vrf_bitio.specs.Pasted.{pasted}
use Rattle.vrf_words.specs.Inner.Words.{set_word}
use Rattle.vrf_model.specs.Book.{Allowances}
use Rattle.vrf_model.specs.Lawful.{Allowed}
use Rattle.vrf_store.specs.Layout
use Rattle.vrf_store.specs.Opening.{above_top, unless_short, unless_above, opening, opened}
use Rattle.vrf_store.proofs.Laws.Opening.Opening.{written-header, opened-fresh}
use Rattle.vrf_schema.specs.OpenContract.{OpenContract}
use Rattle.vrf_schema.proofs.Laws.Open.{open-contract}

none_above : (a : Allowances) → Allowed a → above_top a ≡ none
unfolding above_top
none_above a t = rw (le-ltb 1000000 a.guids t.guids, le-ltb 100000 a.groups t.groups, le-ltb 1000000 a.fields t.fields, le-ltb 67108864 a.text t.text, le-ltb 1000000 a.literals t.literals)

accepts : (a : Allowances) → Allowed a → (n : ℕ) → Layout.need a ≤ n → opening a n ≡ opened
unfolding opening unless_above unless_short
accepts a t n h = rw (none_above a t, le-ltb n (Layout.need a) h)

-- the memory m after `open` has written the header
abbrev emptied : Allowances → List ℕ → List ℕ
emptied a m = pasted (set_word (set_word (set_word (set_word (set_word m 0 a.guids) 1 a.groups) 2 a.fields) 3 a.text) 4 a.literals) 20 (replicate 108 0)

pub opens : (a : Allowances) → Allowed a → (m : List ℕ) → Layout.need a ≤ length m → (m' : List ℕ) × OpenContract a m m' (Ok tt)
opens a t m enough =
    let h = written-header a m (omega (arith, enough)) (omega (arith, t.guids)) (omega (arith, t.groups)) (omega (arith, t.fields)) (omega (arith, t.text)) (omega (arith, t.literals)) refl refl refl refl refl refl in
    (emptied a m, open-contract a m (emptied a m) (Ok tt) (opened-fresh a (accepts a t (length m) enough) t enough h.0 h.1 h.2 (record { header = refl; counters = refl; long = refl; literals = refl })))
